-- A state service that was to return its slave to Init, left in doubt behind the rows of its epoch, changes nothing of what is done.
use Rattle.std.proofs.Common.{◌≡◌, ◌⊎◌, inl, inr, ℕ, suc, ◌+◌, ◌-◌, ◌<◌, ◌≤◌, leb, ◌==◌, ◌&&◌, ◌||◌, Bool, true, false, not, Option, Some, List, [], ◌∷◌, ◌++◌, map, take, drop, length, refl, ap, ap₂, sym, ◌∙◌, subst, arith, append-nil, length-append, if◌then◌else◌}
use Rattle.std.specs.Prelude.{nat_le}
use Rattle.std.proofs.lemmas.Bool.{le-ltb}
use Rattle.std.proofs.lemmas.Bool.Decides.{leb_tells}
use Rattle.std.proofs.lemmas.List.{length-map, take-append-drop, take-append-le}
use Rattle.state_model.specs.of_exchange_model.Exchange.{Exchange}
use Rattle.state_model.specs.of_segment_model.Books.{Answer}
use Rattle.state_model.specs.States.{Table}
use Rattle.state_model.specs.Stated.{Stated, Service}
use Rattle.state_model.specs.Accounts.{Started}
use Rattle.state_model.specs.Promise.{TasksPromised, services_in, mails_in}
use Rattle.life_model.specs.Lives.{returns_to_init}
use Rattle.life_model.specs.Eras.{OpenEra, frames_of}
use Rattle.life_model.specs.Book.{Line, line_of, epoch_book, NoneInDoubt, RepliesFit, is_in_doubt, opened_behind, acted, all_acted, state_next, weight, done, is_left, trimmed}
use Rattle.life_model.proofs.Books.{take-length, take-map, map-append, take_all, grown, counts_none, done_front}
use Rattle.life_model.specs.Chain.{doubt_line}

module _ {V A M Q R : Type 0} (x : Exchange V A M Q R) (s : Stated V A Q) (table : Table) (cleared : A → A) where
  abbrev one : A → Q → ℕ
  one a q = 1

  abbrev does : ℕ → A → List (Line Q R) → List (Line Q R)
  does n a ls = done x s table cleared one n a ls

  abbrev trims : Bool → Option ℕ → ℕ → A → List (Line Q R) → List (Line Q R)
  trims follows opened al a ls = trimmed x s table cleared one follows opened al a ls

  -- A ROW BEFORE OTHERS that isn't in doubt is kept
  pub kept : (follows : Bool) (opened : Option ℕ) (al : ℕ) (a : A) (l : Line Q R) (ls : List (Line Q R)) → is_in_doubt l.answer ≡ false →
      trims follows opened al a (l ∷ ls) ≡ l ∷ trims follows opened al (acted x s table cleared one a l.service) ls
  kept follows opened al a l [] sure = go l.service
    where
      go : (service : Service Q) → (if is_left x s table cleared one follows opened al a l service then [] else l ∷ []) ≡ l ∷ []
      go (Service.Mails q) = refl
      go (Service.State target) = ap (λ d. if d && (follows || (returns_to_init target && not (opened_behind opened l.frame)) || not (al == state_next x s table cleared one a target)) then [] else l ∷ []) sure
  kept follows opened al a l (k ∷ ls) sure = refl

  -- with no row in doubt none is left out of what is done
  pub done_kept : (follows : Bool) (opened : Option ℕ) (al n : ℕ) (a : A) (ls : List (Line Q R)) → NoneInDoubt x s table cleared one ls → trims follows opened al a (does n a ls) ≡ does n a ls
  done_kept follows opened al n a [] sure = refl
  done_kept follows opened al n a (l ∷ ls) sure =
      let b = acted x s table cleared one a l.service in
      let m = n - weight x s table cleared one a l.service in
      go (nat_le (weight x s table cleared one a l.service) n) (kept follows opened al a l (does m b ls) sure.0 ∙ ap (λ k. l ∷ k) (done_kept follows opened al m b ls sure.1))
    where
      go : (t : Bool) → (let b = acted x s table cleared one a l.service in let rest = does (n - weight x s table cleared one a l.service) b ls in trims follows opened al a (l ∷ rest) ≡ l ∷ rest →
          trims follows opened al a (if t then l ∷ rest else []) ≡ (if t then l ∷ rest else []))
      go true same = same
      go false same = refl

  -- THE ONE IN DOUBT is left out
  doubt_left : (follows : Bool) (opened al : ℕ) (target frame : ℕ) → opened < frame → returns_to_init target ≡ true → (a : A) → trims follows (Some opened) al a (doubt_line target frame ∷ []) ≡ []
  doubt_left follows opened al target frame behind returns a =
      ap₂ (λ (r c : Bool). if true && (follows || (r && not c) || not (al == state_next x s table cleared one a target)) then [] else doubt_line target frame ∷ []) returns (le-ltb frame opened (omega (arith, behind))) ∙ go follows
    where
      go : (f : Bool) → (if true && (f || (true && not false) || not (al == state_next x s table cleared one a target)) then [] else doubt_line {Q = Q} {R = R} target frame ∷ []) ≡ []
      go true = refl
      go false = refl

  pub doubt_done : (follows : Bool) (opened al : ℕ) (target frame : ℕ) → opened < frame → returns_to_init target ≡ true → (n : ℕ) (a : A) (ls : List (Line Q R)) → NoneInDoubt x s table cleared one ls →
      trims follows (Some opened) al a (does n a (ls ++ doubt_line target frame ∷ [])) ≡ does n a ls
  doubt_done follows opened al target frame behind returns n a [] sure =
      ap (λ t. trims follows (Some opened) al a (if t then doubt_line target frame ∷ [] else [])) (counts_none n) ∙ doubt_left follows opened al target frame behind returns a
  doubt_done follows opened al target frame behind returns n a (l ∷ ls) sure =
      let b = acted x s table cleared one a l.service in
      let m = n - weight x s table cleared one a l.service in
      go (nat_le (weight x s table cleared one a l.service) n)
      (kept follows (Some opened) al a l (does m b (ls ++ doubt_line target frame ∷ [])) sure.0 ∙ ap (λ k. l ∷ k) (doubt_done follows opened al target frame behind returns m b ls sure.1))
    where
      go : (t : Bool) → (let b = acted x s table cleared one a l.service in let m = n - weight x s table cleared one a l.service in
          trims follows (Some opened) al a (l ∷ does m b (ls ++ doubt_line target frame ∷ [])) ≡ l ∷ does m b ls →
          trims follows (Some opened) al a (if t then l ∷ does m b (ls ++ doubt_line target frame ∷ []) else []) ≡ (if t then l ∷ does m b ls else []))
      go true same = same
      go false same = refl

  -- its answer fits, since there is none
  pub doubt_fits : (count number : ℕ) (a : A) (ls : List (Line Q R)) (target frame : ℕ) → RepliesFit x s table cleared one count number a ls → RepliesFit x s table cleared one count number a (ls ++ doubt_line target frame ∷ [])
  doubt_fits count number a [] target frame f = ((λ o at doubt is. absurd (let clash : Answer.InDoubt ≡ Answer.Ended o at = doubt in cc)), tt)
  doubt_fits count number a (l ∷ ls) target frame f = (f.0, doubt_fits count (suc number) (acted x s table cleared one a l.service) ls target frame f.1)

-- AT MOST ONE ROW BEFORE IT IS BEHIND
module _ {V A M Q R : Type 0} (w : OpenEra V A M Q R) (cleared : A → A) (more : M → Bool) (rs : List (Started Q)) (target frame : ℕ) (e : w.era.account.started ≡ rs ++ record { service = Service.State target; frame = frame } ∷ [])
    (p : TasksPromised w.exchange w.states (w.table w.spot.station) more (frames_of w) w.spot.station w.server w.era.side w.era.account w.slave) where
  abbrev last : Started Q
  last = record { service = Service.State target; frame = frame }

  abbrev lines : List (Started Q) → List (Line Q R)
  lines l = map (λ r. line_of w.exchange.speech more w.spot.station (frames_of w) r) l

  mails_last : (qs : List (Service Q)) → mails_in (qs ++ Service.State target ∷ []) ≡ mails_in qs
  mails_last [] = refl
  mails_last (Service.Mails q ∷ qs) = ap suc (mails_last qs)
  mails_last (Service.State t ∷ qs) = mails_last qs

  abbrev dones : ℕ → List (Line Q R) → List (Line Q R)
  dones n ls = done w.exchange w.states (w.table w.spot.station) cleared (λ a q. 1) n (w.exchange.app w.server) ls

  by : (front : List (Started Q)) (back : List (Line Q R)) (n : ℕ) → n ≡ mails_in (services_in front) → length front ≤ length (dones n (lines front ++ back))
  by front back n is =
      let front_is = done_front w.exchange w.states (w.table w.spot.station) cleared more w.spot.station (frames_of w) (w.exchange.app w.server) front back in
      let rest = done w.exchange w.states (w.table w.spot.station) cleared (λ a q. 1) 0 (all_acted w.exchange w.states (w.table w.spot.station) cleared (λ a q. 1) (w.exchange.app w.server) (lines front)) back in
      let size : length (dones n (lines front ++ back)) ≡ length front + length rest =
      ap (λ k. length (dones k (lines front ++ back))) is ∙ ap length front_is ∙ length-append (lines front) rest
      ∙ ap (λ k. k + length rest) (length-map front (λ r. line_of w.exchange.speech more w.spot.station (frames_of w) r)) in
      omega (arith, size)

  handled_is : (epoch_book w more rs).handled ≡ mails_in (take p.count (services_in w.era.account.started))
  handled_is = ap (λ n. n - w.exchange.handled w.server) p.handled ∙ grown (w.exchange.handled w.server) (mails_in (take p.count (services_in w.era.account.started)))

  size : length w.era.account.started ≡ length rs + 1
  size = ap length e ∙ length-append rs (last ∷ [])

  go : ((leb p.count (length rs) ≡ true) × (p.count ≤ length rs)) ⊎ ((leb p.count (length rs) ≡ false) × (length rs < p.count)) → length rs + 1 ≤ length (dones (epoch_book w more rs).handled (lines rs)) + 2
  go (inl c) =
      let front = take p.count rs in
      let qs : take p.count (services_in w.era.account.started) ≡ services_in front =
      ap (λ l. take p.count (services_in l)) e ∙ take-map (λ (r : Started Q). r.service) p.count (rs ++ last ∷ []) ∙ ap services_in (take-append-le p.count rs (last ∷ []) c.1) in
      let split : lines front ++ lines (drop p.count rs) ≡ lines rs =
      sym (map-append (λ r. line_of w.exchange.speech more w.spot.station (frames_of w) r) front (drop p.count rs)) ∙ ap lines (take-append-drop p.count rs) in
      let least = by front (lines (drop p.count rs)) (epoch_book w more rs).handled (handled_is ∙ ap mails_in qs) in
      let known : length front ≤ length (dones (epoch_book w more rs).handled (lines rs)) = subst (λ l. length front ≤ length (dones (epoch_book w more rs).handled l)) split least in
      let many : length front ≡ p.count = take-length p.count rs c.1 in
      let behind = p.behind in
      omega (arith, known, many, behind, size)
  go (inr c) =
      let less = c.1 in
      let long = length-append rs (last ∷ []) in
      let qs : mails_in (take p.count (services_in w.era.account.started)) ≡ mails_in (services_in rs) =
      ap (λ l. mails_in (take p.count (services_in l))) e ∙ ap mails_in (take-map (λ (r : Started Q). r.service) p.count (rs ++ last ∷ [])) ∙ ap (λ l. mails_in (services_in l)) (take_all p.count (rs ++ last ∷ []) (omega (arith, long, less)))
      ∙ ap mails_in (map-append (λ (r : Started Q). r.service) rs (last ∷ [])) ∙ mails_last (services_in rs) in
      let least = by rs [] (epoch_book w more rs).handled (handled_is ∙ qs) in
      let known : length rs ≤ length (dones (epoch_book w more rs).handled (lines rs)) = subst (λ l. length rs ≤ length (dones (epoch_book w more rs).handled l)) (append-nil (lines rs)) least in
      omega (arith, known)

  pub doubt_behind : length rs + 1 ≤ length (dones (epoch_book w more rs).handled (lines rs)) + 2
  doubt_behind = go (leb_tells p.count (length rs))
