-- THE ANSWERS OF A BOOK: what the frames of an epoch give for its rows, before the epoch's end and before its slave is given up.
use Rattle.std.specs.Prelude.{◌≡◌, ℕ, suc, ◌-◌, ◌<◌, ◌==◌, Bool, true, nat_le, nat_lt, if◌then◌else◌, Option, Some, None, List, [], ◌∷◌, take, drop, ⊤}
use Rattle.state_model.specs.of_exchange_model.Exchange.{Speech}
use Rattle.state_model.specs.of_segment_model.Record.{Frame, News, first_end, news_each, nothing_kept, counted_each}
use Rattle.state_model.specs.of_segment_model.Ends.{Outcome, ends}
use Rattle.state_model.specs.of_segment_model.Books.{Answer, answer_from}
use Rattle.state_model.specs.Stated.{Service}
use Rattle.state_model.specs.Promise.{task_of}
use Rattle.life_model.specs.Lives.{Spot, returns_to_init, opens_state}
use Rattle.life_model.specs.Eras.{era_frames}
use Rattle.life_model.specs.Book.{Line, EpochBook}

-- the news of an epoch up to frame `end`, frame by frame; of a slow slave an empty read counts by its pace
abbrev pub epoch_news : {M : Type 0} → Spot → ℕ → Option ℕ → ℕ → List (Frame M) → List (List (News M))
epoch_news spot pace None end fs = []
epoch_news spot pace (Some opened) end fs =
    let es = era_frames spot opened end fs in counted_each spot.station pace 0 true es (news_each spot.station nothing_kept es)

-- all news of a slave, frame by frame, those of its openings among them
abbrev pub all_news : {M : Type 0} → Spot → List (Frame M) → List (List (News M))
all_news spot fs = news_each spot.station nothing_kept fs

-- the frame behind the first number that isn't below this one, where that is below the end; else the end
abbrev pub first_gave : List ℕ → ℕ → ℕ → ℕ
first_gave [] frame end = end
first_gave (g ∷ gs) frame end = if nat_le frame g then (if nat_lt g end then suc g else end) else first_gave gs frame end

-- these items, from one number on and up to another
abbrev pub between : {X : Type 0} → ℕ → ℕ → List X → List X
between first end xs = take (end - first) (drop first xs)

-- a return to Init that a state service wanted is complete with a status that shows the state which it opens, without the error flag
abbrev pub shown_ends : {M R : Type 0} → ℕ → List (News M) → Option (Outcome R)
shown_ends state [] = None
shown_ends state (News.Status shown None ∷ ns) = if shown == state then Some Outcome.Reached else shown_ends state ns
shown_ends state (News.Status shown (Some code) ∷ ns) = shown_ends state ns
shown_ends state (News.Told m ∷ ns) = shown_ends state ns
shown_ends state (News.Written ∷ ns) = shown_ends state ns
shown_ends state (News.Heard m ∷ ns) = shown_ends state ns
shown_ends state (News.NothingRead ∷ ns) = shown_ends state ns
shown_ends state (News.BoxFull full ∷ ns) = shown_ends state ns

-- from where its statuses count: behind the frame that showed the return to Init, where the row began before that
abbrev pub shown_from : Option ℕ → ℕ → ℕ
shown_from None frame = frame
shown_from (Some cleared) frame = if nat_lt frame cleared then suc cleared else frame

-- the answer that the news give for a task, from a frame on and before an end
abbrev pub answer_in : {M R : Type 0} → (List (News M) → Option (Outcome R)) → ℕ → ℕ → List (List (News M)) → Answer R
answer_in ends frame end news = answer_from (first_end ends frame [] (between frame end news))

-- THE ANSWER OF A ROW is the one that the news of its epoch give from its frame on, before the epoch's end and before its slave is given up; of a
-- row that returns to Init, the one that all statuses behind the return give
abbrev pub answer_at : {M Q R : Type 0} → Speech M Q R → (M → Bool) → List (List (News M)) → List (List (News M)) → Option ℕ → ℕ → ℕ → Service Q → Answer R
answer_at x more news all cleared end frame (Service.Mails q) = answer_in (ends x more (task_of (Service.Mails q))) frame end news
answer_at x more news all cleared end frame (Service.State target) =
    if returns_to_init target then answer_in (shown_ends (opens_state target)) (shown_from cleared frame) end all
    else answer_in (ends x more (task_of (Service.State target))) frame end news

-- each row has it
abbrev pub AnswersBy : {M Q R : Type 0} → Speech M Q R → (M → Bool) → List ℕ → List (List (News M)) → List (List (News M)) → Option ℕ → ℕ → List (Line Q R) → Type 0
AnswersBy x more gave news all cleared end [] = ⊤
AnswersBy x more gave news all cleared end (l ∷ ls) =
    (l.answer ≡ answer_at x more news all cleared (first_gave gave l.frame end) l.frame l.service) × AnswersBy x more gave news all cleared end ls

-- and came before the next row began; the frames of rows rise
abbrev pub Rises : {Q R : Type 0} → List (Line Q R) → Type 0
Rises [] = ⊤
Rises (l ∷ []) = ⊤
Rises {R = R} (l ∷ (k ∷ ls)) = ((o : Outcome R) (frame : ℕ) → l.answer ≡ Answer.Ended o frame → frame < k.frame) × (l.frame < k.frame) × Rises (k ∷ ls)

-- where an epoch's return to Init was seen; each but the first has one
abbrev pub return_of : Option ℕ → ℕ
return_of None = 0
return_of (Some cleared) = cleared

-- an epoch ends where the return to Init was seen that begins the next, or where the run does
abbrev pub end_of : {M Q R : Type 0} → ℕ → List (EpochBook M Q R) → ℕ
end_of stop [] = stop
end_of stop (e ∷ es) = return_of e.cleared

-- THE ANSWERS OF ALL EPOCHS are those that the frames give
abbrev pub AllAnswers : {M Q R : Type 0} → Speech M Q R → (M → Bool) → Spot → ℕ → List ℕ → List (Frame M) → ℕ → List (EpochBook M Q R) → Type 0
AllAnswers x more spot pace gave fs stop [] = ⊤
AllAnswers x more spot pace gave fs stop (e ∷ es) =
    (let end = end_of stop es in AnswersBy x more gave (epoch_news spot pace e.opened end fs) (all_news spot fs) e.cleared end e.lines × Rises e.lines) × AllAnswers x more spot pace gave fs stop es
