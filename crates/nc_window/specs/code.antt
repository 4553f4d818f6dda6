pub mod Window
pub mod SizedVars
pub mod FaultTexts
