mod Traced
