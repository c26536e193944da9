pub mod RunCalls
