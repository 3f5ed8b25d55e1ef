pub mod RisingLists
pub mod Comparing
pub mod Digits
pub mod NameParts
pub mod Numbers
pub mod Printed
pub mod Scanning
pub mod Unescaping
