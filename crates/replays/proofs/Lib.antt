pub mod ActionSteps
pub mod Benches
pub mod Holding
pub mod Marks
pub mod NewsSteps
mod Numbers
mod OneFacts
mod OneReplay
pub mod Publishings
pub mod Recordings
pub mod LeftInstances
pub mod Charges
pub mod Publishes
pub mod MomentSteps
pub mod Reaching
pub mod Remaining
pub mod Running
pub mod Steps
pub mod Telling
pub mod Tellings
pub mod Acts
pub mod HandedOn
mod ReleasedReplays
mod GrantedSlots
mod PublishedBounds
mod Records
mod RightRecords
mod ReplayText
mod RisingTimes
mod RowCosts
mod RowRankers
mod TakenBenches
mod OrderingsOfPresent
mod MasterLines
mod OnlineAlike
mod OnlineOrders
mod OnlineServing
mod AsOnline
