mod Offsets
