pub mod Holding
pub mod MasterAddrs
pub mod SaidMessages
pub mod Taking
