-- What is noted of rows beside the scripts, of packets and of mails that are passed on, and of their answers.
use Rattle.std.proofs.Common.{◌≡◌, ◌==◌, ℕ, suc, ◌+◌, ◌≤◌, Bool, true, false, List, [], ◌∷◌, ◌++◌, length, length-append, map, refl, sym, ap, ◌∙◌, arith, append_assoc, append-nil}
use Rattle.std.specs.Prelude.{◌&&◌, if◌then◌else◌}
use Rattle.std.proofs.lemmas.Bool.{eq-eqb, eqb-true}
use Rattle.std.proofs.lemmas.List.{map-append}
use Rattle.run_frames.specs.of_mailbox_mail.declared.outcome.ReplyKind.{ReplyKind}
use Rattle.run_book.specs.of_master_node.declared.event.Origin.{Origin}
use Rattle.run_book.specs.of_master_node.declared.event.Origin.TheVariants.{Script}
use Rattle.run_book.specs.declared.book.Answer.{Answer}
use Rattle.run_book.specs.declared.book.Answer.TheVariants.{Replied, InDoubt}
use Rattle.run_book.specs.declared.book.Begun.{Begun}
use Rattle.run_book.specs.declared.book.Reply.{Reply}
use Rattle.run_notes.specs.Handed.{Doubts, GoesBy, HandedFirst, IsBeside, RowsGo, Sound, answer_where, answers_told, answers_where, doubts, hand_behind, handed, has_where, last_set, newest_where, noted_where, still_there}
use Rattle.run_notes.specs.Notes.{answered, answered_where, answers_doubted, awaits_nothing, given_up}
use Rattle.run_notes.specs.Reports.{LastScript, unanswered}
use Rattle.run_notes.specs.declared.notes.Notes.{Notes}

-- some rows behind others that are answered
pub answers_append : (test : Origin → Bool) (bs cs : List Begun) (as' ds : List Answer) → length bs ≡ length as' → answers_where test (bs ++ cs) (as' ++ ds) ≡ answers_where test bs as' ++ answers_where test cs ds
answers_append test [] cs [] ds e = refl
answers_append test [] cs (a ∷ as') ds e = absurd (omega (arith, e))
answers_append test (b ∷ bs) cs [] ds e = absurd (omega (arith, e))
answers_append test (b ∷ bs) cs (a ∷ as') ds e =
    ap (λ z. answer_where test b.origin a ++ z) (answers_append test bs cs as' ds (omega (arith, e))) ∙ sym (append_assoc (answer_where test b.origin a) (answers_where test bs as') (answers_where test cs ds))

-- the newest row
pub newest_push : (test : Origin → Bool) (bs : List Begun) (b : Begun) → newest_where test (bs ++ b ∷ []) ≡ test b.origin
newest_push test [] b = refl
newest_push test (c ∷ []) b = refl
newest_push test (c ∷ d ∷ bs) b = newest_push test (d ∷ bs) b

record HasNewest (bs : List Begun) : Type 0 where
  front : List Begun
  row : Begun
  is : bs ≡ front ++ row ∷ []

newest_of : (b : Begun) (bs : List Begun) → HasNewest (b ∷ bs)
newest_of b [] = record { front = []; row = b; is = refl }
newest_of b (c ∷ bs) = let n = newest_of c bs in record { front = b ∷ n.front; row = n.row; is = ap (λ (z : List Begun). b ∷ z) n.is }

one_answer : (test : Origin → Bool) (o : Origin) (a : Answer) → answer_where test o a ++ [] ≡ answer_where test o a
one_answer test o a = append-nil (answer_where test o a)

-- its answer is the last
last_answer : (test : Origin → Bool) (bs : List Begun) (as' : List Answer) → length bs ≡ suc (length as') → (front : List Answer) × ((a : Answer) → answers_where test bs (as' ++ a ∷ []) ≡ front ++ (if newest_where test bs then a ∷ [] else []))
last_answer test [] as' e = absurd (omega (arith, e))
last_answer test (b ∷ bs) as' e =
    let n = newest_of b bs in
    let mail : newest_where test (b ∷ bs) ≡ test n.row.origin = ap (newest_where test) n.is ∙ newest_push test n.front n.row in
    let same : length n.front ≡ length as' = (let k = length-append n.front (n.row ∷ []) in let m = ap length n.is in omega (arith, e, k, m)) in (
      answers_where test n.front as',
      λ a. ap (λ (z : List Begun). answers_where test z (as' ++ a ∷ [])) n.is ∙ answers_append test n.front (n.row ∷ []) as' (a ∷ []) same
          ∙ ap (λ z. answers_where test n.front as' ++ z) (one_answer test n.row.origin a ∙ ap (λ z. if z then a ∷ [] else []) (sym mail)),
    )

pub last_push : {X : Type 0} (x : X) (xs : List X) (y : X) → last_set x (xs ++ y ∷ []) ≡ xs ++ x ∷ []
last_push x [] y = refl
last_push x (z ∷ []) y = refl
last_push x (z ∷ w ∷ xs) y = ap (λ l. z ∷ l) (last_push x (w ∷ xs) y)

pub last_map : {X Y : Type 0} (f : X → Y) (x : X) (xs : List X) → last_set (f x) (map f xs) ≡ map f (last_set x xs)
last_map f x [] = refl
last_map f x (y ∷ []) = refl
last_map f x (y ∷ z ∷ xs) = ap (λ l. f y ∷ l) (last_map f x (z ∷ xs))

-- where nothing is told
none_told : (frame : ℕ) (b : Bool) (as' : List Answer) → answers_told frame b [] as' ≡ as'
none_told frame true as' = refl
none_told frame false as' = refl

none_there : (b : Bool) → still_there b [] ≡ b
none_there true = refl
none_there false = refl

same_count : (n m : ℕ) → n ≡ m → (n == m) ≡ true
same_count n m e = eq-eqb n m e

other_count : (n m : ℕ) → (n ≡ m → ⊥) → (n == m) ≡ false
other_count n m away = go (n == m) refl
  where
    go : (b : Bool) → (n == m) ≡ b → (n == m) ≡ false
    go true e = absurd (away (eqb-true n m e))
    go false e = e

and_true : (b : Bool) → (b && true) ≡ b
and_true true = refl
and_true false = refl

and_false : (b : Bool) → (b && false) ≡ false
and_false true = refl
and_false false = refl

and_left : (b c : Bool) → (b && c) ≡ true → b ≡ true
and_left true c e = refl
and_left false c e = absurd (let bad : false ≡ true = e in cc)

never : {P : Type 0} → true ≡ false → P
never bad = absurd (let no : true ≡ false = bad in cc)

-- ---- ONE SLAVE

module _ (n : Notes) (s : Sound n) where
  -- each service has an answer, where that of one in hand is in doubt
  pub all_answered : length n.begun ≡ length (answers_doubted n)
  all_answered = by n.in_hand refl
    where
      by : (h : Bool) → n.in_hand ≡ h → length n.begun ≡ length (if h then n.answers ++ InDoubt ∷ [] else n.answers)
      by true e = let k = length-append n.answers (InDoubt ∷ []) in let m = s.aligned in let u = ap unanswered e in omega (arith, k, m, u)
      by false e = let m = s.aligned in let u = ap unanswered e in omega (arith, m, u)

module _ (test : Origin → Bool) (beside : IsBeside test) (n : Notes) (s : Sound n) where
  -- the answer of one in hand is the last
  hand_answers : n.in_hand ≡ true → (a : Answer) → answers_where test n.begun (n.answers ++ a ∷ []) ≡ (if newest_where test n.begun then last_set a (noted_where test n) else noted_where test n)
  hand_answers h a =
      let e : length n.begun ≡ suc (length n.answers) = (let u = ap unanswered h in let m = s.aligned in omega (arith, m, u)) in
      let l = last_answer test n.begun n.answers e in
      let now : noted_where test n ≡ l.0 ++ (if newest_where test n.begun then InDoubt ∷ [] else []) = ap (λ (z : Bool). answers_where test n.begun (if z then n.answers ++ InDoubt ∷ [] else n.answers)) h ∙ l.1 InDoubt in
      l.1 a ∙ by l.0 (newest_where test n.begun) ∙ ap (λ (z : List Answer). if newest_where test n.begun then last_set a z else z) (sym now)
    where
      by : (front : List Answer) (b : Bool) → front ++ (if b then a ∷ [] else []) ≡ (if b then last_set a (front ++ (if b then InDoubt ∷ [] else [])) else front ++ (if b then InDoubt ∷ [] else []))
      by front true = sym (last_push a front InDoubt)
      by front false = refl

  -- where one of the script is awaited it is in hand, and no mail is
  script_there : awaits_nothing n.awaited ≡ false → (n.in_hand ≡ true) × (newest_where test n.begun ≡ false)
  script_there w =
      let l = s.last w in (
        by n.in_hand refl l,
        ap (newest_where test) l.last ∙ newest_push test l.front (record { origin = Script l.number; frame = l.frame }) ∙ beside l.number,
      )
    where
      by : (h : Bool) → n.in_hand ≡ h → LastScript n.begun n.answers → n.in_hand ≡ true
      by true e l = e
      by false e l =
          absurd (let u = ap unanswered e in let m = s.aligned in let k = ap length l.last ∙ length-append l.front (record { origin = Script l.number; frame = l.frame } ∷ []) in let b = l.beside in omega (arith, u, m, k, b))

  script_none : awaits_nothing n.awaited ≡ false → has_where test n ≡ false
  script_none w = ap (λ (z : Bool). n.in_hand && z) (script_there w).1 ∙ and_false n.in_hand

  -- NO MAIL IS IN HAND: nothing is left to tell
  idle_goes : (frame : ℕ) (kinds : List ReplyKind) → has_where test n ≡ false → RowsGo test frame kinds n n
  idle_goes frame kinds e = record {
    sound = s;
    answers = sym (ap (λ (z : Bool). answers_told frame z kinds (noted_where test n)) e);
    hand = e ∙ sym (ap (λ (z : Bool). still_there z kinds && length n.gave == length n.gave) e);
    gave = omega arith;
  }

  -- the service in hand has its answer
  answered_sound : n.in_hand ≡ true → (reply : Reply) (frame : ℕ) → Sound (answered n reply frame)
  answered_sound h reply frame = record {
    aligned = (let k = length-append n.answers (Replied reply frame ∷ []) in let m = s.aligned in let u = ap unanswered h in omega (arith, k, m, u));
    last = λ bad. never bad;
  }

  told_so : (frame : ℕ) (kind : ReplyKind) (reply : Reply) → Replied reply frame ≡ handed frame → (as' : List Answer) → last_set (Replied reply frame) as' ≡ answers_told frame true (kind ∷ []) as'
  told_so frame kind reply e as' = ap (λ (a : Answer). last_set a as') e

  mail_answered : (frame : ℕ) (kind : ReplyKind) (reply : Reply) → reply.kind ≡ kind → (kind ≡ ReplyKind.Handed → reply.value ≡ []) → n.in_hand ≡ true → (has_where test n ≡ true → kind ≡ ReplyKind.Handed) → RowsGo test frame (kind ∷ []) n (answered n reply frame)
  mail_answered frame kind reply k value h first = record {
    sound = answered_sound h reply frame;
    answers = hand_answers h (Replied reply frame) ∙ by (newest_where test n.begun) here;
    hand = sym (ap (λ (z : Bool). z && length n.gave == length n.gave) (gone (has_where test n)));
    gave = omega arith;
  }
    where
      here : has_where test n ≡ newest_where test n.begun
      here = ap (λ (z : Bool). z && newest_where test n.begun) h

      gone : (b : Bool) → still_there b (kind ∷ []) ≡ false
      gone true = refl
      gone false = refl

      by : (b : Bool) → has_where test n ≡ b → (if b then last_set (Replied reply frame) (noted_where test n) else noted_where test n) ≡ answers_told frame (has_where test n) (kind ∷ []) (noted_where test n)
      by true e =
          let is = first e in
          let whole : Replied reply frame ≡ handed frame = λ i. Replied (record { kind = (k ∙ is) i; value = value is i }) frame in
          told_so frame kind reply whole (noted_where test n) ∙ sym (ap (λ (z : Bool). answers_told frame z (kind ∷ []) (noted_where test n)) e)
      by false e = sym (ap (λ (z : Bool). answers_told frame z (kind ∷ []) (noted_where test n)) e)

  -- or it is none of which that is told
  where_answered : (frame : ℕ) (kind : ReplyKind) (reply : Reply) → reply.kind ≡ kind → (kind ≡ ReplyKind.Handed → reply.value ≡ []) → (has_where test n ≡ true → kind ≡ ReplyKind.Handed) → RowsGo test frame (kind ∷ []) n (answered_where n reply frame)
  where_answered frame kind reply k value first = by n.in_hand (awaits_nothing n.awaited) refl refl
    where
      by : (h w : Bool) → n.in_hand ≡ h → awaits_nothing n.awaited ≡ w → RowsGo test frame (kind ∷ []) n (if h && w then answered n reply frame else n)
      by true true e f = mail_answered frame kind reply k value e first
      by true false e f = idle_goes frame (kind ∷ []) (script_none f)
      by false w e f = idle_goes frame (kind ∷ []) (ap (λ (z : Bool). z && newest_where test n.begun) e)

  -- one of the script has its answer
  script_answered : (frame : ℕ) (reply : Reply) (from : ℕ) → awaits_nothing n.awaited ≡ false → RowsGo test frame [] n (answered n reply from)
  script_answered frame reply from w =
      let there = script_there w in
      record {
        sound = answered_sound there.0 reply from;
        answers = hand_answers there.0 (Replied reply from) ∙ ap (λ (z : Bool). if z then last_set (Replied reply from) (noted_where test n) else noted_where test n) there.1 ∙ sym (none_told frame (has_where test n) (noted_where test n));
        hand = sym (ap (λ (z : Bool). still_there z [] && length n.gave == length n.gave) (script_none w));
        gave = omega arith;
      }

  -- the slave was given up
  mail_given : (frame : ℕ) (leaves : Bool) (from : ℕ) → RowsGo test frame [] n (given_up n leaves from)
  mail_given frame leaves from =
      let long = length-append n.gave (from ∷ []) in
      record {
        sound = record { aligned = (let all = all_answered n s in omega (arith, all)); last = λ bad. never bad };
        answers = sym (none_told frame (has_where test n) (noted_where test n));
        hand = sym (ap (λ (z : Bool). still_there (has_where test n) [] && z) (other_count (length (n.gave ++ from ∷ [])) (length n.gave) (λ e. absurd (omega (arith, long, e)))) ∙ and_false (still_there (has_where test n) []));
        gave = omega (arith, long);
      }

-- nothing of its services changed
pub same_goes : (frame : ℕ) (n n' : Notes) → n'.begun ≡ n.begun → n'.answers ≡ n.answers → n'.in_hand ≡ n.in_hand → n'.awaited ≡ n.awaited → n'.gave ≡ n.gave → GoesBy frame [] n n'
same_goes frame n n' b a h w g = λ test beside s first.
    record {
      sound = record {
        aligned = ap length b ∙ s.aligned ∙ (λ i. length (sym a i) + unanswered (sym h i));
        last = λ f. (let l = s.last (ap awaits_nothing (sym w) ∙ f) in record { front = l.front; number = l.number; frame = l.frame; last = b ∙ l.last; beside = l.beside ∙ ap length (sym a) });
      };
      answers = (λ i. answers_where test (b i) (if h i then a i ++ InDoubt ∷ [] else a i)) ∙ sym (none_told frame (has_where test n) (noted_where test n));
      hand = (λ i. h i && newest_where test (b i)) ∙ sym (ap (λ (z : Bool). still_there (has_where test n) [] && z) (same_count (length n'.gave) (length n.gave) (ap length g)) ∙ and_true (still_there (has_where test n) []) ∙ none_there (has_where test n));
      gave = (let e = ap length g in omega (arith, e));
    }

pub answered_goes : (frame : ℕ) (n : Notes) (kind : ReplyKind) (reply : Reply) → reply.kind ≡ kind → (kind ≡ ReplyKind.Handed → reply.value ≡ []) → GoesBy frame (kind ∷ []) n (answered_where n reply frame)
answered_goes frame n kind reply k value = λ test beside s first. where_answered test beside n s frame kind reply k value first

pub replied_goes : (frame : ℕ) (n : Notes) (reply : Reply) (from : ℕ) → awaits_nothing n.awaited ≡ false → GoesBy frame [] n (answered n reply from)
replied_goes frame n reply from w = λ test beside s first. script_answered test beside n s frame reply from w

pub given_goes : (frame : ℕ) (n : Notes) (leaves : Bool) (from : ℕ) → GoesBy frame [] n (given_up n leaves from)
given_goes frame n leaves from = λ test beside s first. mail_given test beside n s frame leaves from

-- ---- ONE STEP BEHIND ANOTHER

first_of : (ks ls : List ReplyKind) → HandedFirst (ks ++ ls) → HandedFirst ks
first_of [] ls h = tt
first_of (k ∷ ks) ls h = h

second_of : (b : Bool) (ks ls : List ReplyKind) → (b ≡ true → HandedFirst (ks ++ ls)) → still_there b ks ≡ true → HandedFirst ls
second_of false ks ls h e = absurd (let bad : false ≡ true = e in cc)
second_of true [] ls h e = h refl
second_of true (k ∷ ks) ls h e = absurd (let bad : false ≡ true = e in cc)

there_more : (b : Bool) (ks ls : List ReplyKind) → still_there (still_there b ks) ls ≡ still_there b (ks ++ ls)
there_more false ks ls = refl
there_more true [] ls = refl
there_more true (k ∷ ks) ls = refl

told_more : (frame : ℕ) (b : Bool) (ks ls : List ReplyKind) (as' : List Answer) → answers_told frame (still_there b ks) ls (answers_told frame b ks as') ≡ answers_told frame b (ks ++ ls) as'
told_more frame false ks ls as' = refl
told_more frame true [] ls as' = refl
told_more frame true (k ∷ ks) ls as' = refl

-- where the slave wasn't given up before the second
pub goes_more : (frame : ℕ) (ks ls : List ReplyKind) (n m n' : Notes) → length m.gave ≡ length n.gave → GoesBy frame ks n m → GoesBy frame ls m n' → GoesBy frame (ks ++ ls) n n'
goes_more frame ks ls n m n' same h k = λ test beside s first.
    let f = h test beside s (λ e. first_of ks ls (first e)) in
    let there : has_where test m ≡ still_there (has_where test n) ks = f.hand ∙ ap (λ (z : Bool). still_there (has_where test n) ks && z) (same_count (length m.gave) (length n.gave) same) ∙ and_true (still_there (has_where test n) ks) in
    let g = k test beside f.sound (λ e. second_of (has_where test n) ks ls first (sym there ∙ e)) in
    record {
      sound = g.sound;
      answers = g.answers ∙ (λ i. answers_told frame (there i) ls (f.answers i)) ∙ told_more frame (has_where test n) ks ls (noted_where test n);
      hand = g.hand ∙ (λ i. still_there (there i) ls && length n'.gave == same i) ∙ ap (λ (z : Bool). z && length n'.gave == length n.gave) (there_more (has_where test n) ks ls);
      gave = (let a = f.gave in let b = g.gave in omega (arith, a, b));
    }

both_counts : (a b c : ℕ) → a ≤ b → b ≤ c → ((b == a) && (c == b)) ≡ (c == a)
both_counts a b c l m = go (b == a) refl
  where
    go : (z : Bool) → (b == a) ≡ z → (z && c == b) ≡ (c == a)
    go true e = ap (λ (k : ℕ). c == k) (eqb-true b a e)
    go false e = sym (other_count c a (λ same. absurd (let q : b ≡ a = omega (arith, l, m, same) in let t = eq-eqb b a q in let bad : true ≡ false = sym t ∙ e in cc)))

and_assoc : (a b c : Bool) → ((a && b) && c) ≡ (a && (b && c))
and_assoc true b c = refl
and_assoc false b c = refl

-- where nothing is told by the second
pub goes_then : (frame : ℕ) (ks : List ReplyKind) (n m n' : Notes) → GoesBy frame ks n m → GoesBy frame [] m n' → GoesBy frame ks n n'
goes_then frame ks n m n' h k = λ test beside s first.
    let f = h test beside s first in
    let g = k test beside f.sound (λ e. tt) in
    record {
      sound = g.sound;
      answers = g.answers ∙ none_told frame (has_where test m) (noted_where test m) ∙ f.answers;
      hand = g.hand ∙ ap (λ (z : Bool). z && length n'.gave == length m.gave) (none_there (has_where test m) ∙ f.hand) ∙ and_assoc (still_there (has_where test n) ks) (length m.gave == length n.gave) (length n'.gave == length m.gave)
          ∙ ap (λ (z : Bool). still_there (has_where test n) ks && z) (both_counts (length n.gave) (length m.gave) (length n'.gave) f.gave g.gave);
      gave = (let a = f.gave in let b = g.gave in omega (arith, a, b));
    }

-- ---- WHAT COMES INTO HAND

pub none_doubt : (n : Notes) → Doubts n n
none_doubt n = record { more = []; begun = sym (append-nil n.begun); answers = sym (append-nil (answers_doubted n)); hand = refl }

pub one_doubt : (n n' : Notes) (b : Begun) → n'.begun ≡ n.begun ++ b ∷ [] → n'.answers ≡ answers_doubted n → n'.in_hand ≡ true → Doubts n n'
one_doubt n n' b begun answers hand = record { more = b ∷ []; begun = begun; answers = (λ i. if hand i then answers i ++ InDoubt ∷ [] else answers i); hand = hand }

hand_more : (bs cs : List Begun) (h : Bool) → hand_behind cs (hand_behind bs h) ≡ hand_behind (bs ++ cs) h
hand_more [] cs h = refl
hand_more (b ∷ bs) [] h = refl
hand_more (b ∷ bs) (c ∷ cs) h = refl

pub more_doubts : (n m n' : Notes) → Doubts n m → Doubts m n' → Doubts n n'
more_doubts n m n' d e = record {
  more = d.more ++ e.more;
  begun = e.begun ∙ ap (λ z. z ++ e.more) d.begun ∙ append_assoc n.begun d.more e.more;
  answers = e.answers ∙ ap (λ z. z ++ doubts e.more) d.answers ∙ append_assoc (answers_doubted n) (doubts d.more) (doubts e.more) ∙ ap (λ z. answers_doubted n ++ z) (sym (map-append (λ (b : Begun). InDoubt) d.more e.more));
  hand = e.hand ∙ ap (λ (h : Bool). hand_behind e.more h) d.hand ∙ hand_more d.more e.more n.in_hand;
}
