pub mod Count
pub mod Telling
pub mod Source
pub mod Sink
pub mod Outbox
pub mod Adapter
