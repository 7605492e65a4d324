pub mod FiledLaws
