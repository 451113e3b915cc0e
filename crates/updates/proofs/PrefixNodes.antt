-- Values set aside and put back, and the rule at the key's end.
pub mod Embedded
pub mod Prefixes
pub mod Aside
pub mod KeyEnd
pub mod NodeCopy
