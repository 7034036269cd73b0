pub mod Windows
pub mod Answer
pub mod OnWay
