pub mod IntHeaders
