pub mod ClientLists
pub mod Departures
pub mod ByeChanges
mod StillDesks
mod WatchedScopes
mod Rosters
mod CallSteps
mod Comings
mod Calls
mod Goings
mod Beats
mod Views
mod TouchedLooks
pub mod Visits
mod FedPlaces
mod CarriedParts
mod FedDesks
