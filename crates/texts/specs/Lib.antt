pub mod Printed
pub mod Pen
pub mod Laws
