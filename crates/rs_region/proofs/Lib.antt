pub mod CutParts
pub mod EpochSteps
pub mod JoinKeys
pub mod KeyOrder
pub mod PeerChanges
pub mod SplitShares
