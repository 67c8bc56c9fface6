-- That a serving waits before its frames.
use Rattle.std.proofs.Common.{◌≡◌, ◌∙◌, ℕ, ◌&&◌, List, length, Bool, true, false, not, nat_lt, ◌↔◌, refl, ap, sym, inl, ltb-false, arith}
use Rattle.std.specs.Prelude.{IsTrue, vec_len}
use Rattle.run_record.specs.of_segment_plan.declared.plan.Scenario.{Scenario}
use Rattle.run_record.specs.of_run_book.declared.book.Book.{Book}
use Rattle.run_record.specs.of_run_book.declared.book.GramIn.{GramIn}
use Rattle.run_record.specs.of_run_book.declared.book.SentFrame.{SentFrame}
use Rattle.run_record.specs.Session.{SessionState}
use Rattle.gateway_run.specs.Account.{Course, Owing, Waited}
use Rattle.gateway_run.specs.Goes.{MaySend}
use Rattle.gateway_run.specs.Serving.{can_hear}
use Rattle.gateway_run.specs.declared.desk.Request.{Request}
use Rattle.gateway_run.specs.declared.turn.Serving.{Serving}

-- what is over stays so
pub over_later : (over over' : Bool) → (over ≡ true → over' ≡ true) → over' ≡ false → over ≡ false
over_later true over' stays yet = let is = stays refl in absurd (cc)
over_later false over' stays yet = refl

-- a course that waited did so, by a port that is over later
pub waited_still : (plan : Scenario) (count : ℕ) (s : SessionState) (fs : List SentFrame) (gs : List GramIn) (rs : List Request) (os : List Owing) (c : Course plan count s fs gs rs os) (over over' : Bool) → (over' ≡ false → over ≡ false) → Waited plan count s fs gs rs os c over →
    Waited plan count s fs gs rs os c over'
waited_still plan count _ _ _ _ _ (Course.begins s first serves) over over' yet w = tt
waited_still plan count _ _ _ _ _ (Course.hears s s' fs gs g rs rs' os more c at few judges) over over' yet w = w
waited_still plan count _ _ _ _ _ (Course.steps s s' fs f gs rs os c m) over over' yet w = (λ e. w.0 (yet e), waited_still plan count s fs gs rs os c over over' yet w.1)

-- BEFORE A FRAME no more can be heard
pub may_full : (v : Serving) (b : Book) → can_hear v b ≡ false → MaySend v b
may_full v b shut = λ few yet none.
    let past : nat_lt (length b.grams) v.count ≡ false = sym (ap (λ (o : Bool). not o && nat_lt (length b.grams) v.count) yet) ∙ shut in
    inl (ltb-false (length b.grams) v.count past)

-- or some request is unfinished
pub may_busy : (v : Serving) (b : Book) (empty : Bool) → (IsTrue empty ↔ (vec_len v.desk.requests ≡ 0)) → empty ≡ false → MaySend v b
may_busy v b empty says is = λ few yet none.
    let n = v.desk.requests.ok.0 in
    let m = ap length none in
    absurd (let bad = says.1 (omega (arith, n, m)) in cc)
