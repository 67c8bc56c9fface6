pub use Rattle.run_book.specs.of_segment_plan as of_segment_plan
