-- What is done of an epoch is what its slave has done.
use Rattle.std.proofs.Common.{◌≡◌, ◌⊎◌, inl, inr, ℕ, zero, suc, ◌+◌, ◌-◌, ◌<◌, ◌≤◌, leb, ◌==◌, ◌&&◌, ◌||◌, Bool, true, false, not, Option, Some, None, List, [], ◌∷◌, ◌++◌, map, take, drop, length, refl, ap, ap₂, sym, ◌∙◌, subst, arith, append_assoc, append-nil, length-append, if◌then◌else◌}
use Rattle.std.specs.Prelude.{nat_le}
use Rattle.std.proofs.lemmas.List.{length-map, take-append-drop, take-append-le}
use Rattle.std.proofs.lemmas.Bool.Decides.{leb_tells}
use Rattle.state_model.specs.of_exchange_model.Prefix.{IsPrefixOf}
use Rattle.state_model.specs.of_exchange_model.Exchange.{Exchange, emitted}
use Rattle.state_model.specs.of_exchange_model.Rows.{exec_all, emits_all}
use Rattle.state_model.specs.of_segment_model.Record.{Frame, heard}
use Rattle.state_model.specs.of_segment_model.Ends.{Outcome}
use Rattle.state_model.specs.of_segment_model.Books.{Answer, answer_from}
use Rattle.state_model.specs.States.{Table}
use Rattle.state_model.specs.Promises.{state_behind, answer_of}
use Rattle.state_model.specs.Stated.{Stated, Service, Act, acts, mails, with_states, service_exec, service_emits}
use Rattle.state_model.specs.Accounts.{Started}
use Rattle.state_model.specs.Promise.{TasksPromised, AllReplied, AllDone, AllEnded, but_last, services_in, mails_in, outcome_of}
use Rattle.life_model.specs.Lives.{returns_to_init, opens_state}
use Rattle.life_model.specs.Eras.{OpenEra, frames_of}
use Rattle.life_model.specs.Book.{Line, line_of, epoch_book, done_rows, IsTail, NoInits, IsForgetful, EpochDone, RepliesFit, is_in_doubt, opened_behind, acted, all_acted, state_next, weight, done, is_left, trimmed, emits_by, all_emits, reply_by}

mails-acts : {M : Type 0} (ms : List M) (rest : List (Act M)) → mails (acts ms ++ rest) ≡ ms ++ mails rest
mails-acts [] rest = refl
mails-acts (m ∷ ms) rest = ap (λ l. m ∷ l) (mails-acts ms rest)

pub take-length : {X : Type 0} (n : ℕ) (xs : List X) → n ≤ length xs → length (take n xs) ≡ n
take-length zero xs le = refl
take-length (suc n) [] le = absurd (omega (arith, le))
take-length (suc n) (x ∷ xs) le = ap suc (take-length n xs (omega (arith, le)))

pub take-map : {X Y : Type 0} (f : X → Y) (n : ℕ) (xs : List X) → take n (map f xs) ≡ map f (take n xs)
take-map f zero xs = refl
take-map f (suc n) [] = refl
take-map f (suc n) (x ∷ xs) = ap (λ l. f x ∷ l) (take-map f n xs)

pub counts_none : (m : ℕ) → nat_le 0 m ≡ true
counts_none m = elim (leb_tells 0 m) [ inl c ↦ c.0 | inr c ↦ absurd (let less = c.1 in omega (arith, less)) ]

counts_one : (m : ℕ) → nat_le 1 (suc m) ≡ true
counts_one m = elim (leb_tells 1 (suc m)) [ inl c ↦ c.0 | inr c ↦ absurd (let less = c.1 in omega (arith, less)) ]

pub map-append : {X Y : Type 0} (f : X → Y) (xs ys : List X) → map f (xs ++ ys) ≡ map f xs ++ map f ys
map-append f [] ys = refl
map-append f (x ∷ xs) ys = ap (λ l. f x ∷ l) (map-append f xs ys)

module _ {V A M Q R : Type 0} (x : Exchange V A M Q R) (s : Stated V A Q) (table : Table) (cleared : A → A) (more : M → Bool) (station : ℕ) (fs : List (Frame M)) where
  abbrev pub line : Started Q → Line Q R
  line r = line_of x.speech more station fs r

  abbrev pub one : A → Q → ℕ
  one a q = 1

  abbrev pub acts_all : A → List (Line Q R) → A
  acts_all a ls = all_acted x s table cleared one a ls

  abbrev pub emits : A → List (Line Q R) → List M
  emits a ls = all_emits x s table cleared one a ls

  abbrev pub does : ℕ → A → List (Line Q R) → List (Line Q R)
  does n a ls = done x s table cleared one n a ls

  pub acts-append : (a : A) (xs ys : List (Line Q R)) → acts_all a (xs ++ ys) ≡ acts_all (acts_all a xs) ys
  acts-append a [] ys = refl
  acts-append a (l ∷ xs) ys = acts-append (acted x s table cleared one a l.service) xs ys

  pub emits-append : (a : A) (xs ys : List (Line Q R)) → emits a (xs ++ ys) ≡ emits a xs ++ emits (acts_all a xs) ys
  emits-append a [] ys = refl
  emits-append a (l ∷ xs) ys = ap (λ k. emits_by x s table cleared one a l.service ++ k) (emits-append (acted x s table cleared one a l.service) xs ys)
      ∙ sym (append_assoc (emits_by x s table cleared one a l.service) (emits (acted x s table cleared one a l.service) xs) (emits (acts_all (acted x s table cleared one a l.service) xs) ys))

  -- THE FOLD is the session's, where no service returns to Init
  pub exec_is : (a : A) (k : ℕ) (rs : List (Started Q)) → NoInits (services_in rs) → (exec_all (with_states x s table) (a, k) (services_in rs)).0 ≡ acts_all a (map line rs)
  exec_is a k [] n = refl
  exec_is a k (r ∷ rs) n = go r.service n (λ b j m. exec_is b j rs m)
    where
      go : (service : Service Q) → NoInits (service ∷ services_in rs) → ((b : A) (j : ℕ) → NoInits (services_in rs) → (exec_all (with_states x s table) (b, j) (services_in rs)).0 ≡ acts_all b (map line rs)) →
          (exec_all (with_states x s table) (service_exec x s table (a, k) service) (services_in rs)).0 ≡ acts_all (acted x s table cleared one a service) (map line rs)
      go (Service.Mails q) n rest = rest (x.exec a q) k n
      go (Service.State target) n rest =
          rest (s.told (state_behind table (s.state a) target) a) (suc k) n.1 ∙ ap (λ b. acts_all (s.told (if b then opens_state target else state_behind table (s.state a) target) a) (map line rs)) (sym n.0)

  pub emits_is : (a : A) (k : ℕ) (rs : List (Started Q)) → NoInits (services_in rs) → mails (emits_all (with_states x s table) (a, k) (services_in rs)) ≡ emits a (map line rs)
  emits_is a k [] n = refl
  emits_is a k (r ∷ rs) n = go r.service n (λ b j m. emits_is b j rs m)
    where
      go : (service : Service Q) → NoInits (service ∷ services_in rs) → ((b : A) (j : ℕ) → NoInits (services_in rs) → mails (emits_all (with_states x s table) (b, j) (services_in rs)) ≡ emits b (map line rs)) →
          mails (service_emits x (a, k) service ++ emits_all (with_states x s table) (service_exec x s table (a, k) service) (services_in rs))
          ≡ emits_by x s table cleared one a service ++ emits (acted x s table cleared one a service) (map line rs)
      go (Service.Mails q) n rest = mails-acts (x.emits a q) (emits_all (with_states x s table) (x.exec a q, k) (services_in rs)) ∙ ap (λ l. x.emits a q ++ l) (rest (x.exec a q) k n)
      go (Service.State target) n rest =
          rest (s.told (state_behind table (s.state a) target) a) (suc k) n.1 ∙ ap (λ b. emits (s.told (if b then opens_state target else state_behind table (s.state a) target) a) (map line rs)) (sym n.0)

  -- what is done has all rows that the slave has carried out, and behind them state services alone
  pub done_front : (a : A) (front : List (Started Q)) (back : List (Line Q R)) → does (mails_in (services_in front)) a (map line front ++ back) ≡ map line front ++ does 0 (acts_all a (map line front)) back
  done_front a [] back = refl
  done_front a (r ∷ front) back = go r.service refl (λ b. done_front b front back)
    where
      go : (service : Service Q) → r.service ≡ service → ((b : A) → does (mails_in (services_in front)) b (map line front ++ back) ≡ map line front ++ does 0 (acts_all b (map line front)) back) →
          (if nat_le (weight x s table cleared one a service) (mails_in (service ∷ services_in front)) then line r ∷ does (mails_in (service ∷ services_in front) - weight x s table cleared one a service) (acted x s table cleared one a service) (map line front ++ back) else [])
          ≡ line r ∷ (map line front ++ does 0 (acts_all (acted x s table cleared one a service) (map line front)) back)
      go (Service.Mails q) e rest =
          let m = mails_in (services_in front) in
          ap (λ b. if b then line r ∷ does (suc m - 1) (x.exec a q) (map line front ++ back) else []) (counts_one m)
          ∙ ap (λ n. line r ∷ does n (x.exec a q) (map line front ++ back)) (let same : suc m - 1 ≡ m = omega arith in same) ∙ ap (λ l. line r ∷ l) (rest (x.exec a q))
      go (Service.State target) e rest =
          let m = mails_in (services_in front) in
          let b = acted x s table cleared one a (Service.State target) in
          ap (λ c. if c then line r ∷ does (m - 0) b (map line front ++ back) else []) (counts_none m) ∙ ap (λ n. line r ∷ does n b (map line front ++ back)) (let same : m - 0 ≡ m = omega arith in same) ∙ ap (λ l. line r ∷ l) (rest b)

  -- with none left to count
  module _ (forgets : IsForgetful s) where
    none_told : (k : ℕ) (a : A) (ls : List (Line Q R)) → s.told k (acts_all a (does 0 a ls)) ≡ s.told k a
    none_told k a [] = refl
    none_told k a (l ∷ ls) = go l.service refl (λ b. none_told k b ls)
      where
        go : (service : Service Q) → l.service ≡ service → ((b : A) → s.told k (acts_all b (does 0 b ls)) ≡ s.told k b) →
            s.told k (acts_all a (if nat_le (weight x s table cleared one a service) 0 then l ∷ does (0 - weight x s table cleared one a service) (acted x s table cleared one a service) ls else [])) ≡ s.told k a
        go (Service.Mails q) e rest = refl
        go (Service.State target) e rest =
            let j = state_next x s table cleared one a target in
            ap (λ service. s.told k (acts_all (acted x s table cleared one a service) (does 0 (s.told j a) ls))) e ∙ rest (s.told j a) ∙ forgets k j a

    none_emits : (a : A) (ls : List (Line Q R)) → emits a (does 0 a ls) ≡ []
    none_emits a [] = refl
    none_emits a (l ∷ ls) = go l.service refl (λ b. none_emits b ls)
      where
        go : (service : Service Q) → l.service ≡ service → ((b : A) → emits b (does 0 b ls) ≡ []) →
            emits a (if nat_le (weight x s table cleared one a service) 0 then l ∷ does (0 - weight x s table cleared one a service) (acted x s table cleared one a service) ls else []) ≡ []
        go (Service.Mails q) e rest = refl
        go (Service.State target) e rest =
            let b = s.told (state_next x s table cleared one a target) a in
            ap (λ service. emits_by x s table cleared one a service ++ emits (acted x s table cleared one a service) (does 0 b ls)) e ∙ rest b

  -- WITHOUT A STATE IN DOUBT that is last: all of them, or all but that one
  pub data Trim (ls ds : List (Line Q R)) : Type 0 where
    whole : ds ≡ ls → Trim ls ds
    cut : (init : List (Line Q R)) (l : Line Q R) (target : ℕ) → ls ≡ init ++ l ∷ [] → ds ≡ init → l.service ≡ Service.State target → is_in_doubt l.answer ≡ true → Trim ls ds

  pub trim : (follows : Bool) (opened : Option ℕ) (al : ℕ) (a : A) (ls : List (Line Q R)) → Trim ls (trimmed x s table cleared one follows opened al a ls)
  trim follows opened al a [] = Trim.whole refl
  trim follows opened al a (l ∷ []) = go l.service refl
    where
      go : (service : Service Q) → l.service ≡ service → Trim (l ∷ []) (if is_left x s table cleared one follows opened al a l service then [] else l ∷ [])
      go (Service.Mails q) e = Trim.whole refl
      go (Service.State target) e = here (is_in_doubt l.answer) (follows || (returns_to_init target && not (opened_behind opened l.frame)) || not (al == state_next x s table cleared one a target)) refl
        where
          here : (b c : Bool) → is_in_doubt l.answer ≡ b → Trim (l ∷ []) (if b && c then [] else l ∷ [])
          here false c d = Trim.whole refl
          here true false d = Trim.whole refl
          here true true d = Trim.cut [] l target refl refl e d
  trim follows opened al a (l ∷ (k ∷ ls)) = go (trim follows opened al (acted x s table cleared one a l.service) (k ∷ ls))
    where
      go : Trim (k ∷ ls) (trimmed x s table cleared one follows opened al (acted x s table cleared one a l.service) (k ∷ ls)) → Trim (l ∷ (k ∷ ls)) (l ∷ trimmed x s table cleared one follows opened al (acted x s table cleared one a l.service) (k ∷ ls))
      go (Trim.whole e) = Trim.whole (ap (λ m. l ∷ m) e)
      go (Trim.cut init m target e f is doubt) = Trim.cut (l ∷ init) m target (ap (λ n. l ∷ n) e) (ap (λ n. l ∷ n) f) is doubt

  -- its row has no outcome
  pub doubted : (r : Started Q) → is_in_doubt (line r).answer ≡ true → outcome_of x.speech more station fs r ≡ None
  doubted r d = go (outcome_of x.speech more station fs r) d
    where
      go : (o : Option (Outcome R × ℕ)) → is_in_doubt (answer_from o) ≡ true → o ≡ None
      go None d = refl
      go (Some o) d = absurd (cc)

  -- EACH REPLY is of a row among these
  below : (n m number : ℕ) (rs : List (Started Q)) → n ≤ m → AllDone x.speech more station fs n number rs → AllDone x.speech more station fs m number rs
  below n m number [] le d = tt
  below n m number (r ∷ rs) le d = (λ o e is. let less = d.0 o e is in omega (arith, less, le), below n m (suc number) rs le d.1)

  -- the row with the last number has none
  one_less : (m number : ℕ) (front : List (Started Q)) (r : Started Q) (rest : List (Started Q)) → number + length front ≡ m → outcome_of x.speech more station fs r ≡ None →
      AllDone x.speech more station fs (suc m) number (front ++ r ∷ rest) → AllDone x.speech more station fs m number (front ++ r ∷ rest)
  one_less m number [] r rest at none d = (λ o e is. absurd (let clash : Some o ≡ None = sym e ∙ none in cc), past (suc number) rest (omega (arith, at)) d.1)
    where
      past : (k : ℕ) (rs : List (Started Q)) → m < k → AllDone x.speech more station fs (suc m) k rs → AllDone x.speech more station fs m k rs
      past k [] less d = tt
      past k (q ∷ rs) less d = (λ o e is. let low = d.0 o e is in omega (arith, less, low), past (suc k) rs (omega (arith, less)) d.1)
  one_less m number (q ∷ front) r rest at none d = (λ o e is. omega (arith, at), one_less m (suc number) front r rest (omega (arith, at)) none d.1)

  pub replies_fit : (count number : ℕ) (a : A) (k : ℕ) (rs : List (Started Q)) → NoInits (services_in rs) → AllReplied x s table more station fs (a, k) rs → AllDone x.speech more station fs count number rs →
      RepliesFit x s table cleared one count number a (map line rs)
  replies_fit count number a k [] n replied d = tt
  replies_fit count number a k (r ∷ rs) n replied d = (
    λ o frame e is. let found = ended (outcome_of x.speech more station fs r) o frame e in (replied.0 (o, frame) found is ∙ same r.service n, d.0 (o, frame) found is),
    next r.service n replied.1 (λ b j m f. replies_fit count (suc number) b j rs m f d.1),
  )
    where
      ended : (found : Option (Outcome R × ℕ)) (o : Outcome R) (frame : ℕ) → answer_from found ≡ Answer.Ended o frame → found ≡ Some (o, frame)
      ended None o frame e = absurd (cc)
      ended (Some f) o frame e = let g : Answer.Ended f.0 f.1 ≡ Answer.Ended o frame = e in let a0 : f.0 ≡ o = cc in let a1 : f.1 ≡ frame = cc in ap₂ (λ (b : Outcome R) (c : ℕ). Some (b, c)) a0 a1

      same : (service : Service Q) → NoInits (service ∷ services_in rs) → (with_states x s table).reply (a, k) service ≡ reply_by x s table cleared one a service
      same (Service.Mails q) n = refl
      same (Service.State target) n = ap (λ b. if b then Outcome.Reached else answer_of (table (s.state a) target)) (sym n.0)

      next : (service : Service Q) → NoInits (service ∷ services_in rs) → AllReplied x s table more station fs ((with_states x s table).exec (a, k) service) rs →
          ((b : A) (j : ℕ) → NoInits (services_in rs) → AllReplied x s table more station fs (b, j) rs → RepliesFit x s table cleared one count (suc number) b (map line rs)) →
          RepliesFit x s table cleared one count (suc number) (acted x s table cleared one a service) (map line rs)
      next (Service.Mails q) n f rest = rest (x.exec a q) k n f
      next (Service.State target) n f rest =
          subst (λ b. RepliesFit x s table cleared one count (suc number) (s.told (if b then opens_state target else state_behind table (s.state a) target) a) (map line rs)) (sym n.0)
          (rest (s.told (state_behind table (s.state a) target) a) (suc k) n.1 f)

  no_take : (n : ℕ) (rs : List (Started Q)) → NoInits (services_in rs) → NoInits (services_in (take n rs))
  no_take zero rs h = tt
  no_take (suc n) [] h = tt
  no_take (suc n) (r ∷ rs) h = go r.service h (λ k. no_take n rs k)
    where
      go : (service : Service Q) → NoInits (service ∷ services_in rs) → (NoInits (services_in rs) → NoInits (services_in (take n rs))) → NoInits (service ∷ services_in (take n rs))
      go (Service.Mails q) h rest = rest h
      go (Service.State target) h rest = (h.0, rest h.1)

  -- a row that is followed has its outcome
  pub followed : (front : List (Started Q)) (r next : Started Q) (rest : List (Started Q)) → AllEnded x.speech more station fs (but_last (front ++ r ∷ (next ∷ rest))) → outcome_of x.speech more station fs r ≡ None → ⊥
  followed [] r next rest all none = let some = all.0.1 in cc
  followed (q ∷ []) r next rest all none = let some = all.1.0.1 in cc
  followed (q ∷ (p ∷ front)) r next rest all none = followed (p ∷ front) r next rest all.1 none

  -- the last row of these
  record Last (front : List (Started Q)) (init : List (Line Q R)) (l : Line Q R) : Type 0 where
    rows : List (Started Q)
    row : Started Q
    all : front ≡ rows ++ row ∷ []
    is : line row ≡ l
    many : length rows ≡ length init

  last_of_lines : (front : List (Started Q)) (init : List (Line Q R)) (l : Line Q R) → map line front ≡ init ++ l ∷ [] → Last front init l
  last_of_lines [] [] l e = absurd (cc)
  last_of_lines [] (k ∷ init) l e = absurd (cc)
  last_of_lines (r ∷ []) [] l e = record { rows = []; row = r; all = refl; is = (let same : line r ∷ [] ≡ l ∷ [] = e in cc); many = refl }
  last_of_lines (r ∷ (q ∷ front)) [] l e = absurd (let same : line r ∷ (line q ∷ map line front) ≡ l ∷ [] = e in cc)
  last_of_lines (r ∷ front) (k ∷ init) l e =
      let tail : map line front ≡ init ++ l ∷ [] = (let same : line r ∷ map line front ≡ k ∷ (init ++ l ∷ []) = e in cc) in
      let rest = last_of_lines front init l tail in
      record { rows = r ∷ rest.rows; row = rest.row; all = ap (λ m. r ∷ m) rest.all; is = rest.is; many = ap suc rest.many }

  -- WHAT IS LEFT OUT leaves the rest as it is
  module _ (forgets : IsForgetful s) where
    pub trimmed_told : (k : ℕ) (a : A) (ls ds : List (Line Q R)) → Trim ls ds → s.told k (acts_all a ds) ≡ s.told k (acts_all a ls)
    trimmed_told k a ls ds (Trim.whole e) = ap (λ l. s.told k (acts_all a l)) e
    trimmed_told k a ls ds (Trim.cut init l target e f is doubt) =
        let b = acts_all a init in
        ap (λ m. s.told k (acts_all a m)) f
        ∙ sym (ap (λ m. s.told k (acts_all a m)) e ∙ ap (s.told k) (acts-append a init (l ∷ [])) ∙ ap (λ service. s.told k (acted x s table cleared one b service)) is ∙ forgets k (state_next x s table cleared one b target) b)

    pub trimmed_emits : (a : A) (ls ds : List (Line Q R)) → Trim ls ds → emits a ds ≡ emits a ls
    trimmed_emits a ls ds (Trim.whole e) = ap (emits a) e
    trimmed_emits a ls ds (Trim.cut init l target e f is doubt) =
        let b = acts_all a init in
        ap (emits a) f ∙ sym (ap (emits a) e ∙ emits-append a init (l ∷ []) ∙ ap (λ service. emits a init ++ (emits_by x s table cleared one b service ++ [])) is ∙ append-nil (emits a init))

    -- how many rows are behind, and each reply is of one that is done
    pub record Enough (count : ℕ) (rs : List (Started Q)) (n : ℕ) : Type 0 where
      pub behind : length rs ≤ n + 2
      pub in_done : AllDone x.speech more station fs n 0 rs

    pub enough : (count : ℕ) (front back : List (Started Q)) (sts ds : List (Line Q R)) → length front ≡ count → length (front ++ back) ≤ count + 2 → AllDone x.speech more station fs count 0 (front ++ back) →
        AllEnded x.speech more station fs (but_last (front ++ back)) → Trim (map line front ++ sts) ds → Enough count (front ++ back) (length ds)
    enough count front back sts ds many le d ended (Trim.whole e) =
        let all : length ds ≡ length front + length sts = ap length e ∙ length-append (map line front) sts ∙ ap (λ n. n + length sts) (length-map front line) in
        record { behind = omega (arith, le, all, many); in_done = below count (length ds) 0 (front ++ back) (omega (arith, all, many)) d }
    enough count front back (y ∷ sts) ds many le d ended (Trim.cut init l target e f is doubt) =
        let sum : length front + suc (length sts) ≡ length init + 1 = sym (length-append (map line front) (y ∷ sts) ∙ ap (λ n. n + suc (length sts)) (length-map front line)) ∙ ap length e ∙ length-append init (l ∷ []) in
        let same : length ds ≡ length init = ap length f in
        record { behind = omega (arith, le, sum, same, many); in_done = below count (length ds) 0 (front ++ back) (omega (arith, sum, same, many)) d }
    enough count front back [] ds many le d ended (Trim.cut init l target e f is doubt) =
        let at = last_of_lines front init l (sym (append-nil (map line front)) ∙ e) in
        let none = doubted at.row (ap (λ m. is_in_doubt m.answer) at.is ∙ doubt) in
        let rows : front ++ back ≡ at.rows ++ at.row ∷ back = ap (λ m. m ++ back) at.all ∙ append_assoc at.rows (at.row ∷ []) back in
        let size : count ≡ suc (length at.rows) = sym many ∙ ap length at.all ∙ length-append at.rows (at.row ∷ []) ∙ omega arith in
        let same : length ds ≡ length at.rows = ap length f ∙ sym at.many in
        subst (λ m. Enough count m (length ds)) (sym rows) (subst (λ n. Enough count (at.rows ++ at.row ∷ back) n) (sym same) (record {
          behind = go at.rows at.row back (λ next rest g. followed at.rows at.row next rest (subst (λ m. AllEnded x.speech more station fs (but_last m)) (rows ∙ ap (λ m. at.rows ++ at.row ∷ m) g) ended) none);
          in_done = one_less (length at.rows) 0 at.rows at.row back (omega arith) none (subst (λ n. AllDone x.speech more station fs n 0 (at.rows ++ at.row ∷ back)) size (subst (AllDone x.speech more station fs count 0) rows d));
        }))
      where
        go : (rows : List (Started Q)) (row : Started Q) (back : List (Started Q)) → ((next : Started Q) (rest : List (Started Q)) → back ≡ next ∷ rest → ⊥) → length (rows ++ row ∷ back) ≤ length rows + 2
        go rows row [] none = let size = length-append rows (row ∷ []) in omega (arith, size)
        go rows row (next ∷ rest) none = absurd (none next rest refl)

  -- A FIRST PART of the rows keeps what is said of all
  replied_first : (a : A × ℕ) (rs tail : List (Started Q)) → AllReplied x s table more station fs a (rs ++ tail) → AllReplied x s table more station fs a rs
  replied_first a [] tail all = tt
  replied_first a (r ∷ rs) tail all = (all.0, replied_first ((with_states x s table).exec a r.service) rs tail all.1)

  pub done_first : (count number : ℕ) (rs tail : List (Started Q)) → AllDone x.speech more station fs count number (rs ++ tail) → AllDone x.speech more station fs count number rs
  done_first count number [] tail all = tt
  done_first count number (r ∷ rs) tail all = (all.0, done_first count (suc number) rs tail all.1)

  done_whole : (count number : ℕ) (rs : List (Started Q)) → number + length rs ≤ count → AllDone x.speech more station fs count number rs
  done_whole count number [] le = tt
  done_whole count number (r ∷ rs) le = (λ o e is. omega (arith, le), done_whole count (suc number) rs (omega (arith, le)))

  ended_first : (rs tail : List (Started Q)) → AllEnded x.speech more station fs (but_last (rs ++ tail)) → AllEnded x.speech more station fs (but_last rs)
  ended_first [] tail all = tt
  ended_first (r ∷ []) tail all = tt
  ended_first (r ∷ (q ∷ rs)) tail all = (all.0, ended_first (q ∷ rs) tail all.1)

  -- WHAT IS KNOWN of the rows of an epoch
  pub record Facts (a : A) (rs : List (Started Q)) (end : A) (grown : ℕ) (received : List M) : Type 0 where
    pub count : ℕ
    pub prefix : count ≤ length rs
    pub behind : length rs ≤ count + 2
    pub app : (k : ℕ) → s.told k (acts_all a (map line (take count rs))) ≡ s.told k end
    pub handled : grown ≡ mails_in (services_in (take count rs))
    pub emissions : IsPrefixOf received (emits a (map line (take count rs)))
    pub replied : AllReplied x s table more station fs (a, 0) rs
    pub in_done : AllDone x.speech more station fs count 0 rs
    pub in_doubt : AllEnded x.speech more station fs (but_last rs)

  -- of all that came into hand, or of all but the state service that ends the epoch
  module _ (forgets : IsForgetful s) (a : A) (end : A) (grown : ℕ) (received : List M) (rs : List (Started Q)) (none : NoInits (services_in rs)) where
    whole_facts : (count : ℕ) → count ≤ length rs → length rs ≤ count + 2 → end ≡ (exec_all (with_states x s table) (a, 0) (services_in (take count rs))).0 → grown ≡ mails_in (services_in (take count rs)) →
        IsPrefixOf received (mails (emits_all (with_states x s table) (a, 0) (services_in (take count rs)))) → AllReplied x s table more station fs (a, 0) rs → AllDone x.speech more station fs count 0 rs →
        AllEnded x.speech more station fs (but_last rs) → Facts a rs end grown received
    whole_facts count prefix behind app handled emissions replied in_done in_doubt =
        let quiet = no_take count rs none in
        record {
          count = count;
          prefix = prefix;
          behind = behind;
          app = λ k. ap (s.told k) (sym (app ∙ exec_is a 0 (take count rs) quiet));
          handled = handled;
          emissions = subst (IsPrefixOf received) (emits_is a 0 (take count rs) quiet) emissions;
          replied = replied;
          in_done = in_done;
          in_doubt = in_doubt;
        }

    exec-append : (b : A × ℕ) (qs : List (Service Q)) (q : Service Q) → exec_all (with_states x s table) b (qs ++ q ∷ []) ≡ (with_states x s table).exec (exec_all (with_states x s table) b qs) q
    exec-append b [] q = refl
    exec-append b (p ∷ qs) q = exec-append ((with_states x s table).exec b p) qs q

    emits_append : (b : A × ℕ) (qs : List (Service Q)) (target : ℕ) → emits_all (with_states x s table) b (qs ++ Service.State target ∷ []) ≡ emits_all (with_states x s table) b qs
    emits_append b [] target = refl
    emits_append b (p ∷ qs) target = ap (λ l. (with_states x s table).emits b p ++ l) (emits_append ((with_states x s table).exec b p) qs target)

    mails_append : (qs : List (Service Q)) (target : ℕ) → mails_in (qs ++ Service.State target ∷ []) ≡ mails_in qs
    mails_append [] target = refl
    mails_append (Service.Mails q ∷ qs) target = ap suc (mails_append qs target)
    mails_append (Service.State t ∷ qs) target = mails_append qs target

    -- where that was counted too, it has changed the AL state alone
    ended_facts : (target : ℕ) (r : Started Q) → r.service ≡ Service.State target → (qs : List (Service Q)) → qs ≡ services_in rs ++ r.service ∷ [] → end ≡ (exec_all (with_states x s table) (a, 0) qs).0 → grown ≡ mails_in qs →
        IsPrefixOf received (mails (emits_all (with_states x s table) (a, 0) qs)) → AllReplied x s table more station fs (a, 0) rs → AllEnded x.speech more station fs (but_last rs) → Facts a rs end grown received
    ended_facts target r is qs e app handled emissions replied in_doubt =
        let known : qs ≡ services_in rs ++ Service.State target ∷ [] = e ∙ ap (λ q. services_in rs ++ q ∷ []) is in
        let all : take (length rs) rs ≡ rs = whole rs in
        let before = exec_all (with_states x s table) (a, 0) (services_in rs) in
        record {
          count = length rs;
          prefix = omega arith;
          behind = omega arith;
          app = λ k. sym (ap (s.told k) (app ∙ ap (λ q. (exec_all (with_states x s table) (a, 0) q).0) known ∙ ap (λ b. b.0) (exec-append (a, 0) (services_in rs) (Service.State target)))
              ∙ forgets k (state_behind table (s.state before.0) target) before.0 ∙ ap (s.told k) (exec_is a 0 rs none) ∙ ap (λ l. s.told k (acts_all a (map line l))) (sym all));
          handled = handled ∙ ap mails_in known ∙ mails_append (services_in rs) target ∙ ap (λ l. mails_in (services_in l)) (sym all);
          emissions = subst (IsPrefixOf received) (ap (λ q. mails (emits_all (with_states x s table) (a, 0) q)) known ∙ ap mails (emits_append (a, 0) (services_in rs) target) ∙ emits_is a 0 rs none ∙ ap (λ l. emits a (map line l)) (sym all)) emissions;
          replied = replied;
          in_done = done_whole (length rs) 0 rs (omega arith);
          in_doubt = in_doubt;
        }
      where
        whole : {X : Type 0} (l : List X) → take (length l) l ≡ l
        whole [] = refl
        whole (y ∷ l) = ap (λ m. y ∷ m) (whole l)

pub grown : (n m : ℕ) → n + m - n ≡ m
grown n m = omega arith

services-append : {Q : Type 0} (xs ys : List (Started Q)) → services_in (xs ++ ys) ≡ services_in xs ++ services_in ys
services-append xs ys = map-append (λ (r : Started _). r.service) xs ys

pub take_all : {X : Type 0} (n : ℕ) (xs : List X) → length xs ≤ n → take n xs ≡ xs
take_all zero [] le = refl
take_all (suc n) [] le = refl
take_all zero (x ∷ xs) le = absurd (omega (arith, le))
take_all (suc n) (x ∷ xs) le = ap (λ l. x ∷ l) (take_all n xs (omega (arith, le)))

-- THE FACTS of an epoch's rows
pub facts_of : {V A M Q R : Type 0} (w : OpenEra V A M Q R) (cleared : A → A) (more : M → Bool) → IsForgetful w.states → (rs tail : List (Started Q)) → w.era.account.started ≡ rs ++ tail → NoInits (services_in rs) → IsTail tail →
    TasksPromised w.exchange w.states (w.table w.spot.station) more (frames_of w) w.spot.station w.server w.era.side w.era.account w.slave →
    Facts w.exchange w.states (w.table w.spot.station) cleared more w.spot.station (frames_of w) (w.exchange.app w.server) rs (w.exchange.app w.slave.node.server.server)
    (w.exchange.handled w.slave.node.server.server - w.exchange.handled w.server) (emitted w.exchange.speech.emission (heard w.spot.station (frames_of w)))
facts_of w cleared more forgets rs (r ∷ (q ∷ tail)) e none is p = absurd is
facts_of w cleared more forgets rs [] e none is p =
    let x = w.exchange in
    let s = w.states in
    let table = w.table w.spot.station in
    let station = w.spot.station in
    let fs = frames_of w in
    let a = x.app w.server in
    let all : w.era.account.started ≡ rs = e ∙ append-nil rs in
    let qs : take p.count (services_in w.era.account.started) ≡ services_in (take p.count rs) = ap (λ l. take p.count (services_in l)) all ∙ take-map (λ r. r.service) p.count rs in
    let m = mails_in (take p.count (services_in w.era.account.started)) in
    whole_facts x s table cleared more station fs forgets a (x.app w.slave.node.server.server) (x.handled w.slave.node.server.server - x.handled w.server) (emitted x.speech.emission (heard station fs)) rs none p.count
    (subst (λ l. p.count ≤ length l) all p.prefix) (subst (λ l. length l ≤ p.count + 2) all p.behind)
    (p.app ∙ ap (λ l. (exec_all (with_states x s table) (a, 0) l).0) qs)
    (ap (λ n. n - x.handled w.server) p.handled ∙ grown (x.handled w.server) m ∙ ap mails_in qs)
    (subst (λ l. IsPrefixOf (emitted x.speech.emission (heard station fs)) (mails (emits_all (with_states x s table) (a, 0) l))) qs p.emissions)
    (subst (AllReplied x s table more station fs (a, 0)) all p.replied) (subst (AllDone x.speech more station fs p.count 0) all p.in_done)
    (subst (λ l. AllEnded x.speech more station fs (but_last l)) all p.in_doubt)
facts_of w cleared more forgets rs (r ∷ []) e none is p = go (leb_tells p.count (length rs))
  where
    go : ((leb p.count (length rs) ≡ true) × (p.count ≤ length rs)) ⊎ ((leb p.count (length rs) ≡ false) × (length rs < p.count)) →
        Facts w.exchange w.states (w.table w.spot.station) cleared more w.spot.station (frames_of w) (w.exchange.app w.server) rs (w.exchange.app w.slave.node.server.server)
        (w.exchange.handled w.slave.node.server.server - w.exchange.handled w.server) (emitted w.exchange.speech.emission (heard w.spot.station (frames_of w)))
    go (inl c) =
        let x = w.exchange in
        let s = w.states in
        let table = w.table w.spot.station in
        let station = w.spot.station in
        let fs = frames_of w in
        let a = x.app w.server in
        let qs : take p.count (services_in w.era.account.started) ≡ services_in (take p.count rs) =
        ap (λ l. take p.count (services_in l)) e ∙ take-map (λ r. r.service) p.count (rs ++ r ∷ []) ∙ ap services_in (take-append-le p.count rs (r ∷ []) c.1) in
        let m = mails_in (take p.count (services_in w.era.account.started)) in
        let longer : length (rs ++ r ∷ []) ≤ p.count + 2 = subst (λ l. length l ≤ p.count + 2) e p.behind in
        let more_one = length-append rs (r ∷ []) in
        whole_facts x s table cleared more station fs forgets a (x.app w.slave.node.server.server) (x.handled w.slave.node.server.server - x.handled w.server) (emitted x.speech.emission (heard station fs)) rs none p.count
        c.1 (omega (arith, longer, more_one))
        (p.app ∙ ap (λ l. (exec_all (with_states x s table) (a, 0) l).0) qs)
        (ap (λ n. n - x.handled w.server) p.handled ∙ grown (x.handled w.server) m ∙ ap mails_in qs)
        (subst (λ l. IsPrefixOf (emitted x.speech.emission (heard station fs)) (mails (emits_all (with_states x s table) (a, 0) l))) qs p.emissions)
        (replied_first x s table cleared more station fs (a, 0) rs (r ∷ []) (subst (AllReplied x s table more station fs (a, 0)) e p.replied))
        (done_first x s table cleared more station fs p.count 0 rs (r ∷ []) (subst (AllDone x.speech more station fs p.count 0) e p.in_done))
        (ended_first x s table cleared more station fs rs (r ∷ []) (subst (λ l. AllEnded x.speech more station fs (but_last l)) e p.in_doubt))
    go (inr c) =
        let x = w.exchange in
        let s = w.states in
        let table = w.table w.spot.station in
        let station = w.spot.station in
        let fs = frames_of w in
        let a = x.app w.server in
        let more_one = length-append rs (r ∷ []) in
        let less = c.1 in
        let m = mails_in (take p.count (services_in w.era.account.started)) in
        ended_facts x s table cleared more station fs forgets a (x.app w.slave.node.server.server) (x.handled w.slave.node.server.server - x.handled w.server) (emitted x.speech.emission (heard station fs)) rs none is.0 r is.1
        (take p.count (services_in w.era.account.started))
        (ap (λ l. take p.count (services_in l)) e ∙ take-map (λ r. r.service) p.count (rs ++ r ∷ []) ∙ ap services_in (take_all p.count (rs ++ r ∷ []) (omega (arith, more_one, less))) ∙ services-append rs (r ∷ []))
        p.app
        (ap (λ n. n - x.handled w.server) p.handled ∙ grown (x.handled w.server) m)
        p.emissions
        (replied_first x s table cleared more station fs (a, 0) rs (r ∷ []) (subst (AllReplied x s table more station fs (a, 0)) e p.replied))
        (ended_first x s table cleared more station fs rs (r ∷ []) (subst (λ l. AllEnded x.speech more station fs (but_last l)) e p.in_doubt))

-- THE EPOCH'S ROWS: what is done of them
pub epoch_done : {V A M Q R : Type 0} (w : OpenEra V A M Q R) (cleared : A → A) (more : M → Bool) → IsForgetful w.states → (rs tail : List (Started Q)) → w.era.account.started ≡ rs ++ tail → NoInits (services_in rs) → IsTail tail →
    TasksPromised w.exchange w.states (w.table w.spot.station) more (frames_of w) w.spot.station w.server w.era.side w.era.account w.slave → (follows : Bool) (al : ℕ) →
    EpochDone w cleared (epoch_book w more rs) (done_rows w cleared more rs follows al)
epoch_done {A = A} {M = M} {Q = Q} {R = R} w cleared more forgets rs tail started none is p follows al =
    let x = w.exchange in
    let s = w.states in
    let table = w.table w.spot.station in
    let station = w.spot.station in
    let fs = frames_of w in
    let a = x.app w.server in
    let e = epoch_book w more rs in
    let f = facts_of w cleared more forgets rs tail started none is p in
    let front = take f.count rs in
    let back = drop f.count rs in
    let all : rs ≡ front ++ back = sym (take-append-drop f.count rs) in
    let lines = λ (l : List (Started Q)). map (line x s table cleared more station fs) l in
    let size : length front ≡ f.count = take-length f.count rs f.prefix in
    let sts = does x s table cleared more station fs 0 (acts_all x s table cleared more station fs a (lines front)) (lines back) in
    let done_is : done x s table cleared (λ b q. 1) e.handled a e.lines ≡ lines front ++ sts =
    ap₂ (λ (n : ℕ) (l : List (Line Q R)). done x s table cleared (λ b q. 1) n a l) f.handled (ap lines all ∙ map-append (line x s table cleared more station fs) front back)
    ∙ done_front x s table cleared more station fs a front (lines back) in
    let ds = trimmed x s table cleared (λ b q. 1) follows e.opened al a (lines front ++ sts) in
    let cut = trim x s table cleared more station fs follows e.opened al a (lines front ++ sts) in
    let much = enough x s table cleared more station fs forgets f.count front back sts ds size (subst (λ l. length l ≤ f.count + 2) all f.behind) (subst (AllDone x.speech more station fs f.count 0) all f.in_done)
    (subst (λ l. AllEnded x.speech more station fs (but_last l)) all f.in_doubt) cut in
    let told = λ (k : ℕ). trimmed_told x s table cleared more station fs forgets k a (lines front ++ sts) ds cut
    ∙ ap (s.told k) (acts-append x s table cleared more station fs a (lines front) sts)
    ∙ none_told x s table cleared more station fs forgets k (acts_all x s table cleared more station fs a (lines front)) (lines back) ∙ f.app k in
    let emitted_is = trimmed_emits x s table cleared more station fs forgets a (lines front ++ sts) ds cut ∙ emits-append x s table cleared more station fs a (lines front) sts
    ∙ ap (λ l. emits x s table cleared more station fs a (lines front) ++ l) (none_emits x s table cleared more station fs forgets (acts_all x s table cleared more station fs a (lines front)) (lines back))
    ∙ append-nil (emits x s table cleared more station fs a (lines front)) in
    subst (λ l. EpochDone w cleared e (trimmed x s table cleared (λ b q. 1) follows e.opened al a l)) (sym done_is) (record {
      app = told;
      fits = record {
        behind = subst (λ n. n ≤ length ds + 2) (sym (length-map rs (line x s table cleared more station fs))) (subst (λ l. length l ≤ length ds + 2) (sym all) much.behind);
        replies = replies_fit x s table cleared more station fs (length ds) 0 a 0 rs none f.replied (subst (AllDone x.speech more station fs (length ds) 0) (sym all) much.in_done);
        emissions = subst (λ l. IsPrefixOf e.received l) (sym emitted_is) f.emissions;
      };
    })
