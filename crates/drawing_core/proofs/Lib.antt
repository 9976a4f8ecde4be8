mod MarkLemmas
mod GivenLemmas
mod DrawLemmas
mod FollowLemmas
mod BandingLemmas
mod TouchedLemmas
