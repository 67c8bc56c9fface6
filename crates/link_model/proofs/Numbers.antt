-- The agreement by numbers follows from the agreement.
use Rattle.std.proofs.Common.{◌≡◌, ◌≢◌, ℕ, zero, suc, ◌+◌, ◌-◌, ◌≤◌, ◌⊎◌, inl, inr, Bool, true, false, not, Option, Some, None, List, [], ◌∷◌, ◌++◌, length, arith, refl, ap, sym, ◌∙◌, subst, length-append, append_assoc, append-nil, if◌then◌else◌}
use Rattle.std.proofs.lemmas.Grind.{common_steps}
use Rattle.std.proofs.lemmas.Bool.Decides.{nat_tests}
use Rattle.link_model.specs.Counters.{counter_of, next_counter}
use Rattle.std.specs.Prelude.{option_map}
use Rattle.link_model.specs.Mails.{LinkMail, is_repeat, news, seen, counter_in, bodies}
use Rattle.link_model.specs.Master.{OutHalf, InHalf, InState}
use Rattle.link_model.specs.Slave.{OutSide, InSide}
use Rattle.link_model.specs.Link.{Link}
use Rattle.link_model.specs.Agree.{OutAgree, InAgree, SideAgree, Follows, Prior, Accords, last_body, last_met_of, unread, Knows}
use Rattle.link_model.specs.Numbers.{item, IsMail, Stands, StandsOrNone, OutNumbers, InNumbers, Numbered}
use Rattle.link_model.proofs.Lists.{next_counter-counter_of}

item-append : {B : Type 0} (xs ys : List B) (i : ℕ) (x : B) → item xs i ≡ Some x → item (xs ++ ys) i ≡ Some x
item-append [] ys i x e = absurd (let none : None ≡ Some x = e in cc)
item-append (y ∷ xs) ys zero x e = e
item-append (y ∷ xs) ys (suc i) x e = item-append xs ys i x e

item-length : {B : Type 0} (xs ys : List B) (x : B) → item (xs ++ x ∷ ys) (length xs) ≡ Some x
item-length [] ys x = refl
item-length (y ∷ xs) ys x = item-length xs ys x

-- mail i of the first mails is mail i of all
pub IsMail-append : {B : Type 0} (xs ys : List B) (i : ℕ) (m : LinkMail B) → IsMail xs i m → IsMail (xs ++ ys) i m
IsMail-append xs ys zero m e = e
IsMail-append xs ys (suc i) m e = (item-append xs ys i m.body e.0, e.1)

-- the mail behind these
pub IsMail-next : {B : Type 0} (xs ys : List B) (m : LinkMail B) → m.counter ≡ counter_of (suc (length xs)) → IsMail (xs ++ m.body ∷ ys) (suc (length xs)) m
IsMail-next xs ys m e = (item-length xs ys m.body, e)

-- the last of these
pub IsMail-last : {B : Type 0} (xs : List B) (m : LinkMail B) → last_body xs ≡ Some m.body → m.counter ≡ counter_of (length xs) → IsMail xs (length xs) m
IsMail-last [] m e c = absurd (let none : None ≡ Some m.body = e in cc)
IsMail-last (x ∷ []) m e c = (e, c)
IsMail-last (x ∷ (y ∷ xs)) m e c = (more x y xs m.body e, c)
  where
    more : {B : Type 0} (x y : B) (xs : List B) (b : B) → last_body (y ∷ xs) ≡ Some b → item (x ∷ (y ∷ xs)) (suc (length xs)) ≡ Some b
    more x y [] b e = e
    more x y (z ∷ xs) b e = more y z xs b e

-- what stands before a side: nothing, its last mail once more, or the next one
pub data Place {B : Type 0} (before : List B) (last : ℕ) : Option (LinkMail B) → Type 0 where
  empty : Place before last None
  same : (m : LinkMail B) → IsMail before (length before) m → is_repeat last m ≡ true → Place before last (Some m)
  new : (m : LinkMail B) → m.counter ≡ counter_of (suc (length before)) → is_repeat last m ≡ false → Place before last (Some m)

repeat_counter : {B : Type 0} (last : ℕ) (m : LinkMail B) → is_repeat last m ≡ true → m.counter ≡ last
repeat_counter last m e = grind (arith, common_steps, nat_tests)

pub place_of : {B : Type 0} (before : List B) (last : ℕ) (mail : Option (LinkMail B)) → last ≡ counter_of (length before) → Follows last before mail → Place before last mail
place_of before last None c f = empty
place_of {B} before last (Some m) c f = go (is_repeat last m) refl
  where
    go : (r : Bool) → is_repeat last m ≡ r → Place before last (Some m)
    go true e = same m (IsMail-last before m (f.same m refl e) (repeat_counter last m e ∙ c)) e
    go false e = new m (f.next m refl e ∙ ap next_counter c ∙ sym (next_counter-counter_of (length before)) ∙ ap counter_of (let s : length before + 1 ≡ suc (length before) = omega arith in s)) e

-- the same by the number of mails that it brings
record Brings {B : Type 0} (before fresh : List B) (mail : Option (LinkMail B)) : Type 0 where
  small : length fresh ≤ 1
  none : mail ≡ None → length fresh ≡ 0
  old : (m : LinkMail B) → mail ≡ Some m → length fresh ≡ 0 → IsMail before (length before) m
  next : (m : LinkMail B) → mail ≡ Some m → length fresh ≡ 1 → IsMail (before ++ fresh) (suc (length before)) m
  some : length fresh ≡ 1 → Stands mail (before ++ fresh) (suc (length before))

news_same : {B : Type 0} (last : ℕ) (m : LinkMail B) → is_repeat last m ≡ true → news last (Some m) ≡ []
news_same last m e = ap (λ r. if r then [] else m.body ∷ []) e

news_new : {B : Type 0} (last : ℕ) (m : LinkMail B) → is_repeat last m ≡ false → news last (Some m) ≡ m.body ∷ []
news_new last m e = ap (λ r. if r then [] else m.body ∷ []) e

same_mail : {B : Type 0} (xs : List B) (i : ℕ) (m k : LinkMail B) (mail : Option (LinkMail B)) → mail ≡ Some m → mail ≡ Some k → IsMail xs i m → IsMail xs i k
same_mail xs i m k mail e f is = let same : m ≡ k = (let both : Some m ≡ Some k = sym e ∙ f in cc) in subst (IsMail xs i) same is

brings : {B : Type 0} (before : List B) (last : ℕ) (mail : Option (LinkMail B)) → Place before last mail → Brings before (news last mail) mail
brings before last mail empty = record {
  small = omega arith;
  none = λ e. refl;
  old = λ m e f. absurd (let none : None ≡ Some m = e in cc);
  next = λ m e f. absurd (let none : None ≡ Some m = e in cc);
  some = λ e. absurd (let z : 0 ≡ 1 = e in omega arith);
}
brings {B} before last mail (same m is r) =
    let P : List B → Type 0 = λ xs. Brings before xs (Some m) in
    subst P (sym (news_same last m r)) (record {
      small = omega arith;
      none = λ e. absurd (let none : Some m ≡ None = e in cc);
      old = λ k e f. same_mail before (length before) m k (Some m) refl e is;
      next = λ k e f. absurd (let z : 0 ≡ 1 = f in omega arith);
      some = λ e. absurd (let z : 0 ≡ 1 = e in omega arith);
    })
brings {B} before last mail (new m c r) =
    let P : List B → Type 0 = λ xs. Brings before xs (Some m) in
    let is : IsMail (before ++ m.body ∷ []) (suc (length before)) m = IsMail-next before [] m c in
    subst P (sym (news_new last m r)) (record {
      small = omega arith;
      none = λ e. absurd (let none : Some m ≡ None = e in cc);
      old = λ k e f. absurd (let z : suc 0 ≡ 0 = f in omega arith);
      next = λ k e f. same_mail (before ++ m.body ∷ []) (suc (length before)) m k (Some m) refl e is;
      some = λ e. (m, refl, is);
    })

at_number : {B : Type 0} (xs : List B) (i j : ℕ) (m : LinkMail B) → i ≡ j → IsMail xs i m → IsMail xs j m
at_number xs i j m e is = subst (λ k. IsMail xs k m) e is

-- no mail or one
one_or_none : (n : ℕ) → n ≤ 1 → (n ≡ 0) ⊎ (n ≡ 1)
one_or_none n e = grind arith

Stands-append : {B : Type 0} (place : Option (LinkMail B)) (xs ys : List B) (i : ℕ) → Stands place xs i → Stands place (xs ++ ys) i
Stands-append place xs ys i s = (s.0, s.1, IsMail-append xs ys i s.0 s.2)

Stands-number : {B : Type 0} (place : Option (LinkMail B)) (xs : List B) (i j : ℕ) → i ≡ j → Stands place xs i → Stands place xs j
Stands-number place xs i j e s = (s.0, s.1, at_number xs i j s.0 e s.2)

-- what stands before a side is its last mail of all, or its next, of all mails
holds_last : {B : Type 0} (before fresh : List B) (mail : Option (LinkMail B)) → Brings before fresh mail → (m : LinkMail B) → mail ≡ Some m → IsMail (before ++ fresh) (length (before ++ fresh)) m
holds_last {B} before fresh mail b m e = go (one_or_none (length fresh) b.small)
  where
    go : (length fresh ≡ 0) ⊎ (length fresh ≡ 1) → IsMail (before ++ fresh) (length (before ++ fresh)) m
    go (inl z) = at_number (before ++ fresh) (length before) (length (before ++ fresh)) m (omega (arith, length-append before fresh)) (IsMail-append before fresh (length before) m (b.old m e z))
    go (inr o) = at_number (before ++ fresh) (suc (length before)) (length (before ++ fresh)) m (omega (arith, length-append before fresh)) (b.next m e o)

holds_either : {B : Type 0} (before fresh : List B) (mail : Option (LinkMail B)) → Brings before fresh mail → (m : LinkMail B) → mail ≡ Some m → IsMail (before ++ fresh) (length before) m ⊎ IsMail (before ++ fresh) (suc (length before)) m
holds_either {B} before fresh mail b m e = go (one_or_none (length fresh) b.small)
  where
    go : (length fresh ≡ 0) ⊎ (length fresh ≡ 1) → IsMail (before ++ fresh) (length before) m ⊎ IsMail (before ++ fresh) (suc (length before)) m
    go (inl z) = inl (IsMail-append before fresh (length before) m (b.old m e z))
    go (inr o) = inr (b.next m e o)

either_append : {B : Type 0} (xs ys : List B) (i j : ℕ) (m : LinkMail B) → IsMail xs i m ⊎ IsMail xs j m → IsMail (xs ++ ys) i m ⊎ IsMail (xs ++ ys) j m
either_append xs ys i j m (inl e) = inl (IsMail-append xs ys i m e)
either_append xs ys i j m (inr e) = inr (IsMail-append xs ys j m e)

-- with one mail more held than taken, it is in the half or in mailbox 0
one_more : {B : Type 0} (taken first second : List B) (holding box : Option (LinkMail B)) → Brings taken first box → Brings (taken ++ first) second holding → length ((taken ++ first) ++ second) ≡ length taken + 1 → Stands holding ((taken ++ first) ++ second) (suc (length taken)) ⊎ Stands box ((taken ++ first) ++ second) (suc (length taken))
one_more {B} taken first second holding box b c e = go (one_or_none (length first) b.small)
  where
    go : (length first ≡ 0) ⊎ (length first ≡ 1) → Stands holding ((taken ++ first) ++ second) (suc (length taken)) ⊎ Stands box ((taken ++ first) ++ second) (suc (length taken))
    go (inl z) = inl (Stands-number holding ((taken ++ first) ++ second) (suc (length (taken ++ first))) (suc (length taken)) (omega (arith, length-append taken first)) (c.some (omega (arith, length-append taken first, length-append (taken ++ first) second))))
    go (inr o) = inr (Stands-append box (taken ++ first) second (suc (length taken)) (b.some o))

-- with two more, both
two_more : {B : Type 0} (taken first second : List B) (holding box : Option (LinkMail B)) → Brings taken first box → Brings (taken ++ first) second holding → length ((taken ++ first) ++ second) ≡ length taken + 2 → Stands holding ((taken ++ first) ++ second) (suc (suc (length taken))) × Stands box ((taken ++ first) ++ second) (suc (length taken))
two_more taken first second holding box b c e =
    let lengths = length-append taken first in
    let all = length-append (taken ++ first) second in
    let small = b.small in
    let small_too = c.small in
    let o : length first ≡ 1 = omega arith in
    let p : length second ≡ 1 = omega arith in
    (Stands-number holding ((taken ++ first) ++ second) (suc (length (taken ++ first))) (suc (suc (length taken))) (omega arith) (c.some p), Stands-append box (taken ++ first) second (suc (length taken)) (b.some o))

-- the counter of what stands last
last_counter : {B : Type 0} (before : List B) (last : ℕ) (mail : Option (LinkMail B)) → last ≡ counter_of (length before) → Place before last mail → seen last mail ≡ counter_of (length (before ++ news last mail))
last_counter before last mail c empty = c ∙ ap (λ xs. counter_of (length xs)) (sym (append-nil before))
last_counter {B} before last mail c (same m is r) = repeat_counter last m r ∙ c ∙ ap (λ xs. counter_of (length xs)) (sym (append-nil before)) ∙ ap (λ xs. counter_of (length (before ++ xs))) (sym (news_same last m r))
last_counter {B} before last mail c (new m k r) = k ∙ ap counter_of (let s : suc (length before) ≡ length (before ++ m.body ∷ []) = omega (arith, length-append before (m.body ∷ [])) in s) ∙ ap (λ xs. counter_of (length (before ++ xs))) (sym (news_new last m r))

pub out_numbers : {B : Type 0} (h : OutHalf B) (s : OutSide B) (held taken : List B) → OutAgree h s held taken → OutNumbers h s held taken
out_numbers {B} h s held taken a =
    let first = news s.last_taken s.box in
    let second = news (seen s.last_taken s.box) h.holding in
    let p = place_of taken s.last_taken s.box a.number a.boxed in
    let number = last_counter taken s.last_taken s.box a.number p in
    let q = place_of (taken ++ first) (seen s.last_taken s.box) h.holding number a.holding in
    let b = brings taken s.last_taken s.box p in
    let c = brings (taken ++ first) (seen s.last_taken s.box) h.holding q in
    let all : held ≡ (taken ++ first) ++ second = a.stream ∙ sym (append_assoc taken first second) in
    let P : List B → Type 0 = λ xs. OutNumbers h s xs taken in
    let lengths = length-append taken first in
    let more = length-append (taken ++ first) second in
    let small = b.small in
    let small_too = c.small in
    subst P (sym all) (record {
      first = (first ++ second, append_assoc taken first second);
      last_taken = a.number;
      holding = holds_last (taken ++ first) second h.holding c;
      boxed = λ m e. either_append (taken ++ first) second (length taken) (suc (length taken)) m (holds_either taken first s.box b m e);
      low = omega arith;
      high = omega arith;
      one = one_more taken first second h.holding s.box b c;
      two = two_more taken first second h.holding s.box b c;
      idle = λ e. let none = c.none e in omega arith;
      last = a.last ∙ last_counter (taken ++ first) (seen s.last_taken s.box) h.holding number q;
    })

-- inward

clear_none : {B : Type 0} (h : InHalf) (s : InSide B) (offered accepted : List B) → h.state ≡ InState.Clear → InAgree h s offered accepted → news h.last (last_met_of s) ≡ []
clear_none h s offered accepted e a = grind (arith, common_steps, nat_tests)

-- the counter of the last mail read
read_counter : {B : Type 0} (h : InHalf) (s : InSide B) (offered accepted : List B) (met : Option (LinkMail B)) → last_met_of s ≡ met → InAgree h s offered accepted → counter_in met ≡ seen h.last met
read_counter h s offered accepted None e a = sym (a.never e)
read_counter h s offered accepted (Some m) e a = refl

-- what stands unread or withdrawn, with the counters of the mails behind the last one read
record Ahead {B : Type 0} (s : InSide B) (read : List B) (offered : List B) : Type 0 where
  parts : offered ≡ read ++ (bodies (unread s.again s.box) ++ bodies s.withdrawn)
  low : length read ≤ length offered
  high : length offered ≤ length read + 1
  box : (m : LinkMail B) → s.box ≡ Some m → s.again ≡ false → IsMail offered (suc (length read)) m × (s.withdrawn ≡ None)
  withdrawn : (m : LinkMail B) → s.withdrawn ≡ Some m → IsMail offered (suc (length read)) m
  none : ((m : LinkMail B) → s.box ≡ Some m → s.again ≡ true) → s.withdrawn ≡ None → length offered ≡ length read
  newest : s.newest ≡ counter_of (length offered)

ahead_empty : {B : Type 0} (s : InSide B) (read offered : List B) → unread s.again s.box ≡ None → s.withdrawn ≡ None → ((m : LinkMail B) → s.box ≡ Some m → s.again ≡ false → ⊥) → s.newest ≡ counter_of (length read) → offered ≡ read ++ (bodies (unread s.again s.box) ++ bodies s.withdrawn) → Ahead s read offered
ahead_empty {B} s read offered u w n c p =
    let e : offered ≡ read = p ∙ ap (λ x. read ++ (bodies x ++ bodies s.withdrawn)) u ∙ ap (λ x. read ++ ([] ++ bodies x)) w ∙ append-nil read in
    let l = ap length e in
    record {
      parts = p;
      low = omega arith;
      high = omega arith;
      box = λ m f g. absurd (n m f g);
      withdrawn = λ m f. absurd (let both : None ≡ Some m = sym w ∙ f in cc);
      none = λ f g. l;
      newest = c ∙ ap (λ xs. counter_of (length xs)) (sym e);
    }

next_number : (n : ℕ) (c : ℕ) → c ≡ counter_of n → next_counter c ≡ counter_of (suc n)
next_number n c e = ap next_counter e ∙ sym (next_counter-counter_of n) ∙ ap counter_of (let s : n + 1 ≡ suc n = omega arith in s)

ahead_one : {B : Type 0} (read offered : List B) (m : LinkMail B) → offered ≡ read ++ (m.body ∷ []) → m.counter ≡ counter_of (suc (length read)) → IsMail offered (suc (length read)) m × (length offered ≡ suc (length read))
ahead_one {B} read offered m p c =
    let P : List B → Type 0 = λ xs. IsMail xs (suc (length read)) m in
    (subst P (sym p) (IsMail-next read [] m c), (ap length p ∙ (let l : length (read ++ m.body ∷ []) ≡ suc (length read) = omega (arith, length-append read (m.body ∷ [])) in l)))

ahead_box : {B : Type 0} (s : InSide B) (read offered : List B) (m : LinkMail B) → s.box ≡ Some m → s.again ≡ false → s.withdrawn ≡ None → m.counter ≡ counter_of (suc (length read)) → s.newest ≡ m.counter → offered ≡ read ++ (bodies (unread s.again s.box) ++ bodies s.withdrawn) → Ahead s read offered
ahead_box {B} s read offered m f g w c k p =
    let e : offered ≡ read ++ (m.body ∷ []) = p ∙ ap (λ x. read ++ (bodies (unread x s.box) ++ bodies s.withdrawn)) g ∙ ap (λ x. read ++ (bodies x ++ bodies s.withdrawn)) f ∙ ap (λ x. read ++ ((m.body ∷ []) ++ bodies x)) w in
    let one = ahead_one read offered m e c in
    let l = one.1 in
    record {
      parts = p;
      low = omega arith;
      high = omega arith;
      box = λ q f' g'. (same_mail offered (suc (length read)) m q s.box f f' one.0, w);
      withdrawn = λ q f'. absurd (let both : None ≡ Some q = sym w ∙ f' in cc);
      none = λ f' g'. absurd (let both : true ≡ false = sym (f' m f) ∙ g in cc);
      newest = k ∙ c ∙ ap counter_of (sym l);
    }

ahead_drawn : {B : Type 0} (s : InSide B) (read offered : List B) (m : LinkMail B) → s.withdrawn ≡ Some m → unread s.again s.box ≡ None → ((k : LinkMail B) → s.box ≡ Some k → s.again ≡ false → ⊥) → m.counter ≡ counter_of (suc (length read)) → s.newest ≡ m.counter → offered ≡ read ++ (bodies (unread s.again s.box) ++ bodies s.withdrawn) → Ahead s read offered
ahead_drawn {B} s read offered m w u n c k p =
    let e : offered ≡ read ++ (m.body ∷ []) = p ∙ ap (λ x. read ++ (bodies x ++ bodies s.withdrawn)) u ∙ ap (λ x. read ++ ([] ++ bodies x)) w in
    let one = ahead_one read offered m e c in
    let l = one.1 in
    record {
      parts = p;
      low = omega arith;
      high = omega arith;
      box = λ q f' g'. absurd (n q f' g');
      withdrawn = λ q f'. same_mail offered (suc (length read)) m q s.withdrawn w f' one.0;
      none = λ f' g'. absurd (let both : Some m ≡ None = sym w ∙ g' in cc);
      newest = k ∙ c ∙ ap counter_of (sym l);
    }

no_unread : {B : Type 0} (s : InSide B) → SideAgree s → (m : LinkMail B) → s.withdrawn ≡ Some m → (k : LinkMail B) → s.box ≡ Some k → s.again ≡ false → ⊥
no_unread s a m w k f g = let both : None ≡ Some m = sym (a.one k (a.stands k f) g) ∙ w in cc

unread-none : {B : Type 0} (again : Bool) (box : Option (LinkMail B)) → ((k : LinkMail B) → box ≡ Some k → again ≡ false → ⊥) → unread again box ≡ None
unread-none true box n = refl
unread-none false None n = refl
unread-none false (Some k) n = absurd (n k refl refl)

ahead : {B : Type 0} (s : InSide B) (read offered : List B) → SideAgree s → counter_in (last_met_of s) ≡ counter_of (length read) → offered ≡ read ++ (bodies (unread s.again s.box) ++ bodies s.withdrawn) → Ahead s read offered
ahead {B} s read offered a c p = go s.withdrawn s.again s.box refl refl refl
  where
    counter : (m : LinkMail B) → m.counter ≡ next_counter (counter_in (last_met_of s)) → m.counter ≡ counter_of (suc (length read))
    counter m e = e ∙ next_number (length read) (counter_in (last_met_of s)) c

    go : (withdrawn : Option (LinkMail B)) (again : Bool) (box : Option (LinkMail B)) → s.withdrawn ≡ withdrawn → s.again ≡ again → s.box ≡ box → Ahead s read offered
    go (Some m) again box w g f = ahead_drawn s read offered m w (unread-none s.again s.box (no_unread s a m w)) (no_unread s a m w) (counter m (a.withdrawn_next m w)) (a.newest ∙ ap (seen (seen (counter_in (last_met_of s)) (unread s.again s.box))) w) p
    go None true box w g f =
        let none : (m : LinkMail B) → s.box ≡ Some m → s.again ≡ false → ⊥ = (λ m q r. let both : true ≡ false = sym g ∙ r in cc) in
        let u = unread-none s.again s.box none in
        ahead_empty s read offered u w none (a.newest ∙ ap (seen (seen (counter_in (last_met_of s)) (unread s.again s.box))) w ∙ ap (seen (counter_in (last_met_of s))) u ∙ c) p
    go None false None w g f =
        let none : (m : LinkMail B) → s.box ≡ Some m → s.again ≡ false → ⊥ = (λ m q r. let both : None ≡ Some m = sym f ∙ q in cc) in
        let u = unread-none s.again s.box none in
        ahead_empty s read offered u w none (a.newest ∙ ap (seen (seen (counter_in (last_met_of s)) (unread s.again s.box))) w ∙ ap (seen (counter_in (last_met_of s))) u ∙ c) p
    go None false (Some m) w g f =
        let u : unread s.again s.box ≡ Some m = ap (λ x. unread x s.box) g ∙ f in
        ahead_box s read offered m f g w (counter m (a.unread_next m u)) (a.newest ∙ ap (seen (seen (counter_in (last_met_of s)) (unread s.again s.box))) w ∙ ap (seen (counter_in (last_met_of s))) u) p

-- the last read mail, among those up to it
last_known : {B : Type 0} (before : List B) (last_read : Option (LinkMail B)) → option_map (λ m. m.body) last_read ≡ last_body before → counter_in last_read ≡ counter_of (length before) → StandsOrNone last_read before (length before)
last_known [] None e c = refl
last_known [] (Some m) e c = absurd (let both : Some m.body ≡ None = e in cc)
last_known {B} (x ∷ xs) None e c = absurd (go xs x e)
  where
    go : (xs : List B) (x : B) → None ≡ last_body (x ∷ xs) → ⊥
    go [] x e = let both : None ≡ Some x = e in cc
    go (y ∷ xs) x e = go xs y e
last_known (x ∷ xs) (Some m) e c = (m, refl, IsMail-last (x ∷ xs) m (sym e) c)

StandsOrNone-append : {B : Type 0} (place : Option (LinkMail B)) (xs ys : List B) (i : ℕ) → StandsOrNone place xs i → StandsOrNone place (xs ++ ys) i
StandsOrNone-append place xs ys zero s = s
StandsOrNone-append place xs ys (suc i) s = Stands-append place xs ys (suc i) s

parts_length : {B : Type 0} (all xs ys zs : List B) → all ≡ xs ++ (ys ++ zs) → length all ≡ length xs + (length ys + length zs)
parts_length all xs ys zs e = ap length e ∙ length-append xs (ys ++ zs) ∙ ap (λ n. length xs + n) (length-append ys zs)

-- where what stands in mailbox 1 and what is known as offered bring as many new mails, the last read mail is mail r
as_many : {B : Type 0} (s : InSide B) (read offered before : List B) → Ahead s read offered → Prior s offered before → length (bodies (unread s.again s.box)) ≡ length (bodies (unread s.again s.offered)) → StandsOrNone s.last_read offered (length read)
as_many {B} s read offered before a p e =
    let l = parts_length offered read (bodies (unread s.again s.box)) (bodies s.withdrawn) a.parts in
    let k = parts_length offered before (bodies (unread s.again s.offered)) (bodies s.withdrawn) p.parts in
    let same : length before ≡ length read = omega arith in
    let P : ℕ → Type 0 = λ n. StandsOrNone s.last_read offered n in
    let Q : List B → Type 0 = λ xs. StandsOrNone s.last_read xs (length before) in
    subst P same (subst Q (sym p.parts) (StandsOrNone-append s.last_read before (bodies (unread s.again s.offered) ++ bodies s.withdrawn) (length before) (last_known before s.last_read p.known p.number)))

-- where a new mail offered is gone from mailbox 1, that mail is mail r, and the last read mail is mail r - 1
not_noticed : {B : Type 0} (s : InSide B) (read offered before : List B) (k : LinkMail B) → SideAgree s → Ahead s read offered → Prior s offered before → s.again ≡ false → s.offered ≡ Some k → s.box ≡ None → Stands s.offered offered (length read) × StandsOrNone s.last_read offered (length read - 1)
not_noticed {B} s read offered before k side a p g f b =
    let w = side.one k f g in
    let u : unread s.again s.box ≡ None = ap (λ x. unread x s.box) g ∙ b in
    let o : unread s.again s.offered ≡ Some k = ap (λ x. unread x s.offered) g ∙ f in
    let all : offered ≡ before ++ (k.body ∷ []) = p.parts ∙ ap (λ x. before ++ (bodies x ++ bodies s.withdrawn)) o ∙ ap (λ x. before ++ ((k.body ∷ []) ++ bodies x)) w in
    let none : offered ≡ read = a.parts ∙ ap (λ x. read ++ (bodies x ++ bodies s.withdrawn)) u ∙ ap (λ x. read ++ ([] ++ bodies x)) w ∙ append-nil read in
    let one = ahead_one before offered k all (p.next k o ∙ next_number (length before) (counter_in s.last_read) p.number) in
    let l = ap length none in
    let m = one.1 in
    let last : suc (length before) ≡ length read = omega arith in
    let prior : length before ≡ length read - 1 = omega arith in
    let P : ℕ → Type 0 = λ n. StandsOrNone s.last_read offered n in
    let Q : List B → Type 0 = λ xs. StandsOrNone s.last_read xs (length before) in
    let known = last_known before s.last_read p.known p.number in
    ((k, f, at_number offered (suc (length before)) (length read) k last one.0), subst P prior (subst Q (sym all) (StandsOrNone-append s.last_read before (k.body ∷ []) (length before) known)))

which_read : {B : Type 0} (s : InSide B) (read offered before : List B) (again : Bool) (stood box : Option (LinkMail B)) → s.again ≡ again → s.offered ≡ stood → s.box ≡ box → SideAgree s → Ahead s read offered → Prior s offered before → StandsOrNone s.last_read offered (length read) ⊎ ((s.box ≡ None) × (s.again ≡ false) × Stands s.offered offered (length read) × StandsOrNone s.last_read offered (length read - 1))
which_read s read offered before true stood box g f b side a p =
    inl (as_many s read offered before a p (ap (λ x. length (bodies (unread x s.box))) g ∙ sym (ap (λ x. length (bodies (unread x s.offered))) g)))
which_read s read offered before false None None g f b side a p =
    inl (as_many s read offered before a p (ap (λ x. length (bodies (unread s.again x))) b ∙ sym (ap (λ x. length (bodies (unread s.again x))) f)))
which_read s read offered before false None (Some k) g f b side a p =
    absurd (let both : Some k ≡ None = sym (side.stands k b) ∙ f in cc)
which_read s read offered before false (Some k) (Some m) g f b side a p =
    inl (as_many s read offered before a p (ap (λ x. length (bodies (unread s.again x))) (b ∙ sym (side.stands m b))))
which_read s read offered before false (Some k) None g f b side a p =
    let n = not_noticed s read offered before k side a p g f b in
    inr (b, g, n.0, n.1)

bit_or_not : (a b : Bool) → (a ≡ b) ⊎ (a ≡ not b)
bit_or_not true true = inl refl
bit_or_not true false = inr refl
bit_or_not false true = inr refl
bit_or_not false false = inl refl

-- none was read where none was met
none_read : {B : Type 0} (h : InHalf) (s : InSide B) (offered accepted : List B) → last_met_of s ≡ None → InAgree h s offered accepted → length (accepted ++ news h.last (last_met_of s)) ≡ 0
none_read {B} h s offered accepted e a = go accepted (sym a.number ∙ a.never e)
  where
    go : (xs : List B) → counter_of (length xs) ≡ 0 → length (xs ++ news h.last (last_met_of s)) ≡ 0
    go [] c = ap (λ x. length (news h.last x)) e
    go (x ∷ xs) c = absurd (omega arith)

there_read : {B : Type 0} (h : InHalf) (s : InSide B) (offered accepted : List B) (met : Option (LinkMail B)) → last_met_of s ≡ met → InAgree h s offered accepted → Brings accepted (news h.last met) met → h.state ≢ InState.Clear → s.acknowledge ≡ h.bit → length (accepted ++ news h.last (last_met_of s)) ≢ 0 → Stands s.box (accepted ++ news h.last met) (length (accepted ++ news h.last met))
there_read h s offered accepted None e a b n k z = absurd (z (none_read h s offered accepted e a))
there_read h s offered accepted (Some m) e a b n k z =
    (m, (a.there n k m e).0, holds_last accepted (news h.last (Some m)) (Some m) b m refl)

clear_bits : {B : Type 0} (h : InHalf) (s : InSide B) (state : InState) → h.state ≡ state → Knows state h s → state ≡ InState.Clear → (s.request ≡ h.bit) × (s.acknowledge ≡ h.bit)
clear_bits h s InState.Clear e k f = (k.1, k.2)
clear_bits h s InState.Doubt e k f = absurd (cc)
clear_bits h s InState.Asked e k f = absurd (cc)
clear_bits h s InState.Refetch e k f = absurd (cc)

asked_bit : {B : Type 0} (h : InHalf) (s : InSide B) (state : InState) → Knows state h s → state ≡ InState.Asked → s.request ≡ h.bit
asked_bit h s InState.Clear k f = k.1
asked_bit h s InState.Doubt k f = absurd (cc)
asked_bit h s InState.Asked k f = k
asked_bit h s InState.Refetch k f = k.0

refetch_bits : {B : Type 0} (h : InHalf) (s : InSide B) (state : InState) → Knows state h s → state ≡ InState.Refetch → (s.request ≡ h.bit) × (s.acknowledge ≡ h.bit)
refetch_bits h s InState.Clear k f = (k.1, k.2)
refetch_bits h s InState.Doubt k f = absurd (cc)
refetch_bits h s InState.Asked k f = absurd (cc)
refetch_bits h s InState.Refetch k f = k

again_is : {B : Type 0} (s : InSide B) (offered : List B) (read : ℕ) → SideAgree s → s.again ≡ true → StandsOrNone s.last_read offered read ⊎ ((s.box ≡ None) × (s.again ≡ false) × Stands s.offered offered read × StandsOrNone s.last_read offered (read - 1)) → StandsOrNone s.offered offered read
again_is s offered read side g (inl x) = let P : Option _ → Type 0 = λ o. StandsOrNone o offered read in subst P (sym (side.again g)) x
again_is s offered read side g (inr x) = absurd (let both : true ≡ false = sym g ∙ x.1 in cc)

either_count : (a r n : ℕ) → r ≡ a + n → n ≤ 1 → (a ≡ r) ⊎ (a + 1 ≡ r)
either_count a r n e l = grind arith

pub in_numbers : {B : Type 0} (h : InHalf) (s : InSide B) (offered accepted before : List B) → InAgree h s offered accepted → Prior s offered before → InNumbers h s offered accepted
in_numbers {B} h s offered accepted before a p =
    let met = last_met_of s in
    let fresh = news h.last met in
    let read = accepted ++ fresh in
    let place = place_of accepted h.last met a.number a.read in
    let b = brings accepted h.last met place in
    let counter = read_counter h s offered accepted met refl a ∙ last_counter accepted h.last met a.number place in
    let parts : offered ≡ read ++ (bodies (unread s.again s.box) ++ bodies s.withdrawn) = a.stream ∙ sym (append_assoc accepted fresh (bodies (unread s.again s.box) ++ bodies s.withdrawn)) in
    let x = ahead s read offered a.side counter parts in
    let known = which_read s read offered before s.again s.offered s.box refl refl refl a.side x p in
    let l = length-append accepted fresh in
    record {
      read = length read;
      first = (fresh ++ (bodies (unread s.again s.box) ++ bodies s.withdrawn), a.stream);
      count = either_count (length accepted) (length read) (length fresh) l b.small;
      last = a.number;
      clear = λ e. (let none = ap length (clear_none h s offered accepted e a) in omega arith, (clear_bits h s h.state refl a.knows e).0, (clear_bits h s h.state refl a.knows e).1);
      unread = x.box;
      withdrawn = x.withdrawn;
      offered_low = x.low;
      offered_high = x.high;
      all_read = x.none;
      last_read = known;
      again = λ g. again_is s offered (length read) a.side g known;
      doubt = λ e. bit_or_not s.request h.bit;
      asked = asked_bit h s h.state a.knows;
      refetch = refetch_bits h s h.state a.knows;
      there = λ n k z. (let P : List B → Type 0 = λ xs. Stands s.box xs (length read) in subst P (sym parts) (Stands-append s.box read (bodies (unread s.again s.box) ++ bodies s.withdrawn) (length read) (there_read h s offered accepted met refl a b n k z)));
      newest = x.newest;
    }

-- the agreement by numbers
pub numbered : {B S : Type 0} (w : Link B S) → Accords w → Numbered w
numbered w a = record {
  out = out_numbers w.halves.out w.node.out w.held w.taken a.agrees.out;
  inn = in_numbers w.halves.inn w.node.inn w.offered w.accepted a.before a.agrees.inn a.prior;
}
