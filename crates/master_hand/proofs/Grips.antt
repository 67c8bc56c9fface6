-- How a client in hand goes on showing its row.
use Rattle.std.proofs.Common.{◌≡◌, ℕ, List, [], ◌∷◌, ◌++◌, Bool, true, false, Option, Some, None, refl, sym, ap, ◌∙◌, append_assoc, append-nil, drop, length}
use Rattle.std.specs.Prelude.{is_some, option_map}
use Rattle.foe_client.specs.of_exchange_model.Exchange.{Speech, plain}
use Rattle.foe_client.specs.of_exchange_model.Rows.{Row, begun, answer_after, row_heard, row_told, left}
use Rattle.serving_model.proofs.of_exchange_model.Words.{plain-append}
use Rattle.serving_model.specs.of_segment_model.Seats.{next_mail, first_left}
use Rattle.master_hand.specs.Grips.{Talks, Going, Hearing, HasIt}

-- a service comes into hand
pub talks_begun : {M Q R : Type 0} (x : Speech M Q R) (later : List M → List M) (awaits : List M → Option R) (q : Q) (frame : ℕ) →
    ((hs : List M) → later hs ≡ x.planned q hs) → ((hs : List M) → awaits hs ≡ x.ends q hs) → Talks x later awaits (begun q frame)
talks_begun x later awaits q frame l a = record { rest = λ hs. sym (l hs); goes = λ hs. sym (a hs) }

pub going_begun : {M Q R : Type 0} (x : Speech M Q R) (Kind : Q → Type 0) (later : List M → List M) (awaits : List M → Option R) (q : Q) (frame : ℕ) →
    ((hs : List M) → later hs ≡ x.planned q hs) → ((hs : List M) → awaits hs ≡ x.ends q hs) → x.ends q [] ≡ None → Kind q → Going x Kind later awaits false (Some (begun q frame))
going_begun x Kind later awaits q frame l a none k = record {
  kind = k;
  row = begun q frame;
  is = refl;
  talks = talks_begun x later awaits q frame l a;
  answer = refl;
  quiet = λ e. a [] ∙ none;
  kept = λ b e. absurd (cc);
}

-- its next mail is held
talks_told : {M Q R : Type 0} (x : Speech M Q R) (later new : List M → List M) (awaits answers : List M → Option R) (r : Row M Q R) (m : M) →
    ((hs : List M) → later hs ≡ m ∷ new hs) → ((hs : List M) → answers hs ≡ awaits hs) → Talks x later awaits r → Talks x new answers (row_told m r)
talks_told x later new awaits answers r m l a t = record {
  rest = λ hs. t.rest hs ∙ ap (λ ms. r.told ++ ms) (l hs) ∙ sym (append_assoc r.told (m ∷ []) (new hs));
  goes = λ hs. t.goes hs ∙ sym (a hs);
}

pub going_told : {M Q R : Type 0} (x : Speech M Q R) (Kind : Q → Type 0) (later new : List M → List M) (awaits answers : List M → Option R) (b : Bool) (now : Option (Row M Q R)) (m : M) →
    ((hs : List M) → later hs ≡ m ∷ new hs) → ((hs : List M) → answers hs ≡ awaits hs) → Going x Kind later awaits b now → Going x Kind new answers b (option_map (λ r. row_told m r) now)
going_told x Kind later new awaits answers b now m l a g = record {
  row = row_told m g.row;
  is = ap (option_map (λ r. row_told m r)) g.is;
  kind = g.kind;
  talks = talks_told x later new awaits answers g.row m l a g.talks;
  answer = g.answer;
  quiet = λ e. a [] ∙ g.quiet e;
  kept = λ b e. a [] ∙ g.kept b e;
}

drop_told : {M : Type 0} (xs ys : List M) → drop (length xs) (xs ++ ys) ≡ ys
drop_told [] ys = refl
drop_told (x ∷ xs) ys = drop_told xs ys

-- the mails that a row has left are those that its client has
pub talks_left : {M Q R : Type 0} (x : Speech M Q R) (later : List M → List M) (awaits : List M → Option R) (r : Row M Q R) → Talks x later awaits r → left x r ≡ later []
talks_left x later awaits r t =
    ap (λ ms. drop (length r.told) ms) (ap (x.planned r.service) (sym (append-nil (plain x.emission r.heard))) ∙ t.rest []) ∙ drop_told r.told (later [])

pub going_next : {M Q R : Type 0} (x : Speech M Q R) (Kind : Q → Type 0) (later new : List M → List M) (awaits : List M → Option R) (b : Bool) (now : Option (Row M Q R)) (m : M) →
    ((hs : List M) → later hs ≡ m ∷ new hs) → Going x Kind later awaits b now → next_mail x now None true ≡ m ∷ []
going_next x Kind later new awaits b now m l g =
    ap (λ o. next_mail x o None true) g.is ∙ ap first_left (talks_left x later awaits g.row g.talks ∙ l [])

-- mails are heard, and `ps` are those that reply
talks_heard : {M Q R : Type 0} (x : Speech M Q R) (later new : List M → List M) (awaits answers : List M → Option R) (r : Row M Q R) (frame : ℕ) (ms ps : List M) →
    plain x.emission ms ≡ ps → ((hs : List M) → new hs ≡ later (ps ++ hs)) → ((hs : List M) → answers hs ≡ awaits (ps ++ hs)) → Talks x later awaits r → Talks x new answers (row_heard x frame ms r)
talks_heard {M = M} x later new awaits answers r frame ms ps p l a t =
    let e : plain x.emission (r.heard ++ ms) ≡ plain x.emission r.heard ++ ps = plain-append x.emission r.heard ms ∙ ap (λ z. plain x.emission r.heard ++ z) p in
    record {
      rest = λ hs. ap (λ (z : List M). x.planned r.service (z ++ hs)) e ∙ ap (x.planned r.service) (append_assoc (plain x.emission r.heard) ps hs) ∙ t.rest (ps ++ hs) ∙ ap (λ z. r.told ++ z) (sym (l hs));
      goes = λ hs. ap (λ (z : List M). x.ends r.service (z ++ hs)) e ∙ ap (x.ends r.service) (append_assoc (plain x.emission r.heard) ps hs) ∙ t.goes (ps ++ hs) ∙ sym (a hs);
    }

heard_ends : {M Q R : Type 0} (x : Speech M Q R) (later : List M → List M) (awaits : List M → Option R) (r : Row M Q R) → Talks x later awaits r → x.ends r.service (plain x.emission r.heard) ≡ awaits []
heard_ends x later awaits r t = ap (x.ends r.service) (sym (append-nil (plain x.emission r.heard))) ∙ t.goes []

stays : {R : Type 0} (frame : ℕ) (answer : Option (R × ℕ)) (o : Option R) → (answer ≡ None → o ≡ None) → answer_after frame answer o ≡ answer
stays frame (Some a) o h = refl
stays frame None None h = refl
stays frame None (Some r) h = absurd (clash (h refl)) where
  clash : Some r ≡ None → ⊥
  clash e = absurd (cc)

-- mails that reply to nothing
pub going_emission : {M Q R : Type 0} (x : Speech M Q R) (Kind : Q → Type 0) (later : List M → List M) (awaits : List M → Option R) (b : Bool) (now : Option (Row M Q R)) (frame : ℕ) (ms : List M) →
    plain x.emission ms ≡ [] → Going x Kind later awaits b now → Going x Kind later awaits b (option_map (λ r. row_heard x frame ms r) now)
going_emission x Kind later awaits b now frame ms p g =
    let t = talks_heard x later later awaits awaits g.row frame ms [] p (λ hs. refl) (λ hs. refl) g.talks in
    let s = stays frame g.row.answer (x.ends g.row.service (plain x.emission (g.row.heard ++ ms))) (λ n. heard_ends x later awaits (row_heard x frame ms g.row) t ∙ g.quiet n) in
    record {
      row = row_heard x frame ms g.row;
      is = ap (option_map (λ r. row_heard x frame ms r)) g.is;
      kind = g.kind;
      talks = t;
      answer = ap is_some s ∙ g.answer;
      quiet = λ n. g.quiet (sym s ∙ n);
      kept = λ a e. g.kept a (sym s ∙ e);
    }

open_answer : {R : Type 0} (frame : ℕ) (answer : Option (R × ℕ)) (o : Option R) → is_some answer ≡ false → is_some (answer_after frame answer o) ≡ is_some o
open_answer frame None None e = refl
open_answer frame None (Some r) e = refl
open_answer frame (Some a) o e = absurd (cc)

opened_is : {R : Type 0} (frame : ℕ) (answer : Option (R × ℕ)) (o : Option R) (a : R × ℕ) → is_some answer ≡ false → answer_after frame answer o ≡ Some a → o ≡ Some a.0
opened_is frame None None a e h = absurd (cc)
opened_is frame None (Some r) a e h = ap (option_map (λ p. p.0)) h
opened_is frame (Some b) o a e h = absurd (cc)

none_is : {T : Type 0} (o : Option T) → is_some o ≡ false → o ≡ None
none_is None e = refl
none_is (Some t) e = absurd (cc)

not_some : {T : Type 0} (o : Option T) → o ≡ None → is_some o ≡ false
not_some o e = ap is_some e

-- mails that reply, while no reply is complete
pub going_heard : {M Q R : Type 0} (x : Speech M Q R) (Kind : Q → Type 0) (later new : List M → List M) (awaits answers : List M → Option R) (b : Bool) (now : Option (Row M Q R)) (frame : ℕ) (ms ps : List M) →
    plain x.emission ms ≡ ps → ((hs : List M) → new hs ≡ later (ps ++ hs)) → ((hs : List M) → answers hs ≡ awaits (ps ++ hs)) → is_some (answers []) ≡ b →
    Going x Kind later awaits false now → Going x Kind new answers b (option_map (λ r. row_heard x frame ms r) now)
going_heard x Kind later new awaits answers b now frame ms ps p l a some g =
    let t = talks_heard x later new awaits answers g.row frame ms ps p l a g.talks in
    let ended = heard_ends x new answers (row_heard x frame ms g.row) t in
    let opened = open_answer frame g.row.answer (x.ends g.row.service (plain x.emission (g.row.heard ++ ms))) g.answer ∙ ap is_some ended in
    record {
      row = row_heard x frame ms g.row;
      is = ap (option_map (λ r. row_heard x frame ms r)) g.is;
      kind = g.kind;
      talks = t;
      answer = opened ∙ some;
      quiet = λ n. none_is (answers []) (sym opened ∙ not_some _ n);
      kept = λ b e. sym ended ∙ opened_is frame g.row.answer (x.ends g.row.service (plain x.emission (g.row.heard ++ ms))) b g.answer e;
    }

-- THE REPLIES ALONE
pub hears_of : {M Q R : Type 0} (x : Speech M Q R) (Kind : Q → Type 0) (later : List M → List M) (awaits : List M → Option R) (b : Bool) (now : Option (Row M Q R)) → Going x Kind later awaits b now → Hearing x Kind awaits b now
hears_of x Kind later awaits b now g = record { row = g.row; is = g.is; kind = g.kind; goes = g.talks.goes; answer = g.answer; quiet = g.quiet; kept = g.kept }

hearing_goes : {M Q R : Type 0} (x : Speech M Q R) (awaits answers : List M → Option R) (r : Row M Q R) (ms ps : List M) → plain x.emission ms ≡ ps → ((hs : List M) → answers hs ≡ awaits (ps ++ hs)) →
    ((hs : List M) → x.ends r.service (plain x.emission r.heard ++ hs) ≡ awaits hs) → (hs : List M) → x.ends r.service (plain x.emission (r.heard ++ ms) ++ hs) ≡ answers hs
hearing_goes {M = M} x awaits answers r ms ps p a g hs =
    let e : plain x.emission (r.heard ++ ms) ≡ plain x.emission r.heard ++ ps = plain-append x.emission r.heard ms ∙ ap (λ z. plain x.emission r.heard ++ z) p in
    ap (λ (z : List M). x.ends r.service (z ++ hs)) e ∙ ap (x.ends r.service) (append_assoc (plain x.emission r.heard) ps hs) ∙ g (ps ++ hs) ∙ sym (a hs)

goes_ended : {M Q R : Type 0} (x : Speech M Q R) (awaits : List M → Option R) (q : Q) (hs : List M) → ((ms : List M) → x.ends q (hs ++ ms) ≡ awaits ms) → x.ends q hs ≡ awaits []
goes_ended x awaits q hs g = ap (x.ends q) (sym (append-nil hs)) ∙ g []

-- mails that reply to nothing
pub hearing_emission : {M Q R : Type 0} (x : Speech M Q R) (Kind : Q → Type 0) (awaits : List M → Option R) (b : Bool) (now : Option (Row M Q R)) (frame : ℕ) (ms : List M) →
    plain x.emission ms ≡ [] → Hearing x Kind awaits b now → Hearing x Kind awaits b (option_map (λ r. row_heard x frame ms r) now)
hearing_emission x Kind awaits b now frame ms p g =
    let t = hearing_goes x awaits awaits g.row ms [] p (λ hs. refl) g.goes in
    let s = stays frame g.row.answer (x.ends g.row.service (plain x.emission (g.row.heard ++ ms))) (λ n. goes_ended x awaits g.row.service (plain x.emission (g.row.heard ++ ms)) t ∙ g.quiet n) in
    record {
      row = row_heard x frame ms g.row;
      is = ap (option_map (λ r. row_heard x frame ms r)) g.is;
      kind = g.kind;
      goes = t;
      answer = ap is_some s ∙ g.answer;
      quiet = λ n. g.quiet (sym s ∙ n);
      kept = λ a e. g.kept a (sym s ∙ e);
    }

-- mails that reply, while no reply is complete
pub hearing_heard : {M Q R : Type 0} (x : Speech M Q R) (Kind : Q → Type 0) (awaits answers : List M → Option R) (b : Bool) (now : Option (Row M Q R)) (frame : ℕ) (ms ps : List M) →
    plain x.emission ms ≡ ps → ((hs : List M) → answers hs ≡ awaits (ps ++ hs)) → is_some (answers []) ≡ b →
    Hearing x Kind awaits false now → Hearing x Kind answers b (option_map (λ r. row_heard x frame ms r) now)
hearing_heard x Kind awaits answers b now frame ms ps p a some g =
    let t = hearing_goes x awaits answers g.row ms ps p a g.goes in
    let ended = goes_ended x answers g.row.service (plain x.emission (g.row.heard ++ ms)) t in
    let opened = open_answer frame g.row.answer (x.ends g.row.service (plain x.emission (g.row.heard ++ ms))) g.answer ∙ ap is_some ended in
    record {
      row = row_heard x frame ms g.row;
      is = ap (option_map (λ r. row_heard x frame ms r)) g.is;
      kind = g.kind;
      goes = t;
      answer = opened ∙ some;
      quiet = λ n. none_is (answers []) (sym opened ∙ not_some _ n);
      kept = λ b e. sym ended ∙ opened_is frame g.row.answer (x.ends g.row.service (plain x.emission (g.row.heard ++ ms))) b g.answer e;
    }

some_of : {T : Type 0} (o : Option T) → is_some o ≡ true → (x : T) × (o ≡ Some x)
some_of None e = absurd (cc)
some_of (Some x) e = (x, refl)

-- the reply is there
pub has_of : {M Q R : Type 0} (x : Speech M Q R) (Kind : Q → Type 0) (awaits : List M → Option R) (now : Option (Row M Q R)) → Hearing x Kind awaits true now → HasIt Kind (awaits []) now
has_of x Kind awaits now g =
    let a = some_of g.row.answer g.answer in
    record { row = g.row; answer = a.0; is = g.is; kind = g.kind; answered = a.1; kept = g.kept a.0 a.1 }
