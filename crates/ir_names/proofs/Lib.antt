pub mod LocalTables
pub mod Numbers
pub mod RisingNumbers
pub mod Tables
