pub mod ReturnLists
