pub mod Marks
pub mod Run
pub mod Swar
pub mod TextMeaning
