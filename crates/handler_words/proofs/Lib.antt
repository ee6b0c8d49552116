pub mod Carried
pub mod Ready
pub mod Meets
pub mod Loans
pub mod Asks
pub mod Entered
pub mod Dues
