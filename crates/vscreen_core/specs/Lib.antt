pub mod Picture
pub mod Band
pub mod FilmState
pub mod Changes
pub mod Period
pub mod Laws
