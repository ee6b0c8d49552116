pub mod LayoutLines
pub mod LayoutFiles
pub mod CharacterLaws
pub mod SectionLaws
pub mod LineLoops
pub mod Loops
