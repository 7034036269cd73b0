pub mod Laws
pub mod Printed
pub mod Listable
pub mod ObjectLaws
