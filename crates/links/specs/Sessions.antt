pub mod Links
pub mod Laws
pub mod OnTheWay
