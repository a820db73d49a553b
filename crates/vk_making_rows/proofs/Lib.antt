pub mod QuietCalls
