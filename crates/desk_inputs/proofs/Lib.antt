pub mod GivenValues
pub mod Tags
pub mod RaisedWindows
pub mod AskedPlaces
pub mod CarriedDesks
pub mod FedParts
mod EntryTexts
pub mod StillInputs
