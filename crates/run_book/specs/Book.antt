-- The record of a run.
use Rattle.std.specs.Prelude.{◌≡◌, ◌≤◌, [], false, length}
use Rattle.run_book.specs.declared.book.Book.{Book}
use Rattle.run_book.specs.declared.book.SentFrame.{SentFrame}
use Rattle.run_book.specs.declared.book.Ending.TheVariants.{Unfinished}

-- a book in which nothing stands yet
pub record IsNew (book : Book) : Type 0 where
  pub frames : book.frames ≡ []
  pub slaves : book.slaves ≡ []
  pub switch : book.switch ≡ []
  pub switched : book.switched ≡ []
  pub host : book.host ≡ []
  pub grams : book.grams ≡ []
  pub replies : book.replies ≡ []
  pub serving : book.serving ≡ false
  pub ending : book.ending ≡ Unfinished

-- a frame fits Ethernet's largest, and so does what returned of it
pub record IsShort (f : SentFrame) : Type 0 where
  pub sent : length f.sent ≤ 1514
  pub back : length f.back ≤ 1514
