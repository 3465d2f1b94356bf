pub mod ShortenedRun
