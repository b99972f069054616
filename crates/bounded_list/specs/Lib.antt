pub mod BoundedLists
