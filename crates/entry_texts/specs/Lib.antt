pub use Rattle.people_words.specs as of_people_words
pub use Rattle.service_texts.specs as of_service_texts
pub mod Replies
pub mod Silence
