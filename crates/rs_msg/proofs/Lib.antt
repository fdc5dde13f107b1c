pub mod Cuts
pub mod Cutting
pub mod Keys
pub mod Noting
pub mod Parted
pub mod Results
pub mod SmallParts
pub mod Splitting
