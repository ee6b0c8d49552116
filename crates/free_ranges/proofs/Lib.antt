pub mod LawLemmas
pub mod RangeLemmas
pub mod RangeLists
pub mod TournamentLemmas
