pub mod ArrivalLaws
pub mod CardLaws
pub mod DataPort
pub mod FreePages
pub mod LineLaws
pub mod PutBytes
pub mod RingLaws
pub mod WholeLaws
