mod FaultLaws
mod Receiver
mod Sleepers
