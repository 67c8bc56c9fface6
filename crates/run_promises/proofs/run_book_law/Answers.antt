use Rattle.run_promises.proofs.Books as Books
use Rattle.run_promises.proofs.Ups as Ups
use Rattle.run_promises.proofs.run_book_law.Goals as goal

pub returns : goal.returns
returns c = λ plan is known fs missed as' led round. Books.books plan fs as' (c.run_lives_law.ensures plan is known fs missed as' led round) (Ups.ups plan fs missed as' led)
