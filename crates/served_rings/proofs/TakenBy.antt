-- BY A FRAME: what a slave counts never falls; and how far the record comes of a mail that is passed on, has no reply and is in hand.
use Rattle.std.proofs.Common.{◌≡◌, ◌⊎◌, inl, inr, ℕ, zero, suc, ◌+◌, ◌-◌, ◌≤◌, ◌||◌, Bool, true, false, Option, Some, None, List, [], ◌∷◌, ◌++◌, map, length, refl, ap, ap₂, sym, ◌∙◌, subst, arith, append-nil, length-append}
use Rattle.std.specs.Prelude.{⊤, nat_lt}
use Rattle.std.proofs.lemmas.Bool.Decides.{nat_tests}
use Rattle.served_places.proofs.of_exchange_model.Words.{grows_all}
use Rattle.served_places.specs.of_exchange_model.Exchange.{Exchange, IsLawful, Speech}
use Rattle.served_places.specs.of_life_model.Lives.{passes}
use Rattle.served_places.specs.of_link_model.Segment.{RingFate}
use Rattle.served_places.specs.of_link_model.Slave.{node_look, node_takes}
use Rattle.served_places.proofs.of_few_replies.Founds.{AllFindNone, sees_empty, sees_late}
use Rattle.served_places.proofs.of_few_replies.Passings.{boxed, counted_same, counted_told, sends, sent, sent_boxed, skips, waiting}
use Rattle.run_work.specs.of_few_replies.Led.{counted_news}
use Rattle.served_places.proofs.of_segment_model.Links.{served_server}
use Rattle.served_places.proofs.of_segment_model.Written.{all_written-append, all_written-back, all_written-told, has_written, mails_told, mails_told-append, told_told}
use Rattle.served_places.specs.of_segment_model.Ends.{Passing, all_written}
use Rattle.served_places.specs.of_segment_model.Record.{News, is_for, mails_heard}
use Rattle.served_places.specs.of_segment_model.Slaves.{Access, Datagram, Processor, Ring, Slave, first_meet, frame_after, ring_after, ring_steps, serving, slave_after, slave_steps, state_told}
use Rattle.served_places.specs.of_serving_model.Tagged.{no_reply}
use Rattle.served_places.specs.of_state_model.Stated.{IsStated, Stated}
use Rattle.served_places.proofs.of_state_model.Moves.{server_after}
use Rattle.served_places.specs.of_state_model.Accounts.{IsServed, IsServed.nothing, IsServed.other, IsServed.own, IsServed.quiet}

-- ---- what the slave counts never falls
one_slave : {V M : Type 0} (a b : ℕ) (s n : Slave V M) → ◌≡◌ {A = Ring V M} ((a, s) ∷ []) ((b, n) ∷ []) → s ≡ n
one_slave {V} {M} a b s n e = let pair : ◌≡◌ {A = ℕ × Slave V M} (a, s) (b, n) = cc in ap (λ p. p.1) pair

module _ {V A M Q R : Type 0} (x : Exchange V A M Q R) (law : IsLawful x) (s : Stated V A Q) (stated : IsStated x s) (processor : Processor V) (tells : (state : ℕ) (v : V) → processor.tell state v ≡ s.tell state v) where
  abbrev counts_of : Slave V M → ℕ
  counts_of n = x.handled n.node.server.server

  step_grows : (n : Slave V M) → counts_of n ≤ counts_of (slave_steps x processor n)
  step_grows n =
      let state = (processor.carry n.registers).state in
      let told = state_told processor state (node_look n.node) in
      let same : x.handled told.server.server ≡ counts_of n = ap x.handled (tells state n.node.server.server) ∙ stated.handled state n.node.server.server in
      let more = grows_all x law told.server.server (node_takes (serving x) told) in
      let is = ap x.handled (served_server x told) in
      omega (arith, same, more, is)

  steps_grow : (ks : List ℕ) (a b : ℕ) (n m : Slave V M) → ring_steps x processor ((a, n) ∷ []) ks ≡ (b, m) ∷ [] → counts_of n ≤ counts_of m
  steps_grow [] a b n m e = let same = ap counts_of (one_slave a b n m e) in omega (arith, same)
  steps_grow (zero ∷ ks) a b n m e = let one = step_grows n in let rest = steps_grow ks a b (slave_steps x processor n) m e in omega (arith, one, rest)
  steps_grow (suc k ∷ ks) a b n m e = steps_grow ks a b n m e

  none_meet : (j : ℕ) (ds : List (Datagram M)) → ◌≡◌ {A = Ring V M} (first_meet j [] ds) []
  none_meet zero ds = refl
  none_meet (suc j) ds = refl

  met_grows : (ks : List ℕ) (a b : ℕ) (n m : Slave V M) (ds : List (Datagram M)) → ring_steps x processor ((a, slave_after a n ds) ∷ []) ks ≡ (b, m) ∷ [] → counts_of n ≤ counts_of m
  met_grows ks a b n m ds e = let same = ap (λ v. x.handled v.server) (server_after a n ds) in let rest = steps_grow ks a b (slave_after a n ds) m e in omega (arith, same, rest)

  pub turn_grows : (fate : RingFate) (ks : List ℕ) (a b : ℕ) (n m : Slave V M) (ds : List (Datagram M)) → ring_steps x processor (ring_after ((a, n) ∷ []) ds fate) ks ≡ (b, m) ∷ [] → counts_of n ≤ counts_of m
  turn_grows RingFate.Back ks a b n m ds e = met_grows ks a b n m ds e
  turn_grows (RingFate.Lost zero) ks a b n m ds e = steps_grow ks a b n m e
  turn_grows (RingFate.Lost (suc j)) ks a b n m ds e = met_grows ks a b n m ds (ap (λ (l : Ring V M). ring_steps x processor ((a, slave_after a n ds) ∷ l) ks) (sym (none_meet j (frame_after a n ds))) ∙ e)

-- ---- what a returned frame tells the master of mailbox 0
module _ {M : Type 0} (station : ℕ) where
  pub finds_none : (access : Option Access) (ds : List (Datagram M)) → IsServed station access ds → AllFindNone station ds
  finds_none access ds nothing = tt
  finds_none access ds (other d later is rest) = (
    (λ mine. absurd (let bad : true ≡ false = sym mine ∙ ap (is_for station) is.address ∙ is.apart in cc)),
    finds_none access later rest,
  )
  finds_none access ds (quiet d later is none rest) = ((λ mine. none), finds_none access later rest)
  finds_none access ds (own d later at none rest) = ((λ mine. none), finds_none None later rest)

or_true : (b : Bool) → b || true ≡ true
or_true true = refl
or_true false = refl

pub longer : (n m : ℕ) → n ≡ m → nat_lt n m ≡ false
longer n m e = grind (arith, nat_tests, e)

pub one_more : (n m : ℕ) → m ≡ n + 1 → nat_lt n m ≡ true
one_more n m e = grind (arith, nat_tests, e)

module _ {M Q R : Type 0} (x : Speech M Q R) (acknowledged : Q → Bool) (more : M → Bool) (passed : Q → Bool) where
  abbrev by : Option Passing → List (News M) → Option Passing
  by o ns = passes x acknowledged more passed o ns

  -- how far the record has come of a mail in hand that is passed on and has no reply: it was told, or written
  abbrev pub Part : Passing → List (News M) → Type 0
  Part Passing.Waiting news = ⊤
  Part Passing.Sent news = 1 ≤ length (mails_told news)
  Part Passing.Boxed news = all_written 1 news ≡ true
  Part Passing.Served news = ⊥
  Part Passing.Answered news = ⊥

  abbrev pub PartOf : Option Passing → List (News M) → Type 0
  PartOf None news = ⊥
  PartOf (Some p) news = Part p news

  -- BY THE NEWS OF A FRAME that bring no reply it comes further, or mailbox 0 was seen empty behind its write
  module _ (counts : Bool) (news back : List (News M)) (ts : List M) (none_told : mails_told back ≡ []) (late : sees_late back ≡ false) (none : no_reply x.emission (mails_heard back) ≡ true) where
    abbrev frame : List (News M)
    frame = map (λ m. News.Told m) ts ++ back

    abbrev ns : List (News M)
    ns = counted_news counts back

    told_both : length (mails_told (news ++ frame)) ≡ length (mails_told news) + length ts
    told_both =
        let all : mails_told (news ++ frame) ≡ mails_told news ++ (ts ++ []) = mails_told-append news frame ∙ ap (λ l. mails_told news ++ l) (mails_told-append (map (λ m. News.Told m) ts) back ∙ ap₂ (λ (k l : List M). k ++ l) (told_told ts) none_told) in
        let l1 = ap length all in
        let l2 = length-append (mails_told news) (ts ++ []) in
        let l3 = ap length (append-nil ts) in
        omega (arith, l1, l2, l3)

    written_more : 1 ≤ length (mails_told news) + length ts → has_written back ≡ true → all_written 1 (news ++ frame) ≡ true
    written_more told w =
        let zero_left : (1 - length (mails_told news)) - length ts ≡ 0 = omega (arith, told) in
        all_written-append 1 news frame ∙ ap (λ b. all_written 1 news || b) (all_written-told (1 - length (mails_told news)) ts back ∙ ap (λ k. all_written k back) zero_left ∙ all_written-back 0 back none_told ∙ w) ∙ or_true (all_written 1 news)

    stays_written : all_written 1 news ≡ true → all_written 1 (news ++ frame) ≡ true
    stays_written w = all_written-append 1 news frame ∙ ap (λ b. b || all_written (1 - length (mails_told news)) frame) w

    none_here : no_reply x.emission (mails_heard ns) ≡ true
    none_here = ap (no_reply x.emission) (counted_same counts back).heard ∙ none

    abbrev Result : Option Passing → Type 0
    Result o = PartOf o (news ++ frame)

    sent_on : 1 ≤ length (mails_told news) + length ts → Result (by (Some Passing.Sent) ns)
    sent_on told = go (has_written ns) refl
      where
        go : (b : Bool) → has_written ns ≡ b → Result (by (Some Passing.Sent) ns)
        go false w = let l = told_both in subst Result (sym (sent x acknowledged more passed ns w none_here)) (omega (arith, l, told))
        go true w = subst Result (sym (sent_boxed x acknowledged more passed ns w ((counted_same counts back).late ∙ late) none_here)) (written_more told (sym (counted_same counts back).written ∙ w))

    pub comes_on : (p : Passing) → Part p news → Result (by (Some p) (counted_news counts frame)) ⊎ ((p ≡ Passing.Boxed) × (sees_empty back ≡ true))
    comes_on p part = subst (λ l. Result (by (Some p) l) ⊎ ((p ≡ Passing.Boxed) × (sees_empty back ≡ true))) (sym (counted_told counts ts back)) (on p part)
      where
        waits : (l : List M) → ts ≡ l → Result (by (Some Passing.Waiting) (map (λ m. News.Told m) l ++ ns))
        waits [] e = subst Result (sym (waiting x acknowledged more passed ns ((counted_same counts back).told ∙ none_told) none_here)) tt
        waits (t ∷ l) e = subst Result (sym (sends x acknowledged more passed t l ns)) (sent_on (let k = ap length e in omega (arith, k)))

        on : (p : Passing) → Part p news → Result (by (Some p) (map (λ m. News.Told m) ts ++ ns)) ⊎ ((p ≡ Passing.Boxed) × (sees_empty back ≡ true))
        on Passing.Waiting part = inl (waits ts refl)
        on Passing.Sent part = inl (subst Result (sym (skips x acknowledged more passed Passing.Sent (λ m. refl) ts ns)) (sent_on (omega (arith, part))))
        on Passing.Boxed part = go (sees_empty ns) refl
          where
            go : (b : Bool) → sees_empty ns ≡ b → Result (by (Some Passing.Boxed) (map (λ m. News.Told m) ts ++ ns)) ⊎ ((Passing.Boxed ≡ Passing.Boxed) × (sees_empty back ≡ true))
            go false e = inl (subst Result (sym (skips x acknowledged more passed Passing.Boxed (λ m. refl) ts ns ∙ boxed x acknowledged more passed ns e none_here)) (stays_written part))
            go true e = inr (refl, sym (counted_same counts back).empty ∙ e)
        on Passing.Served part = absurd part
        on Passing.Answered part = absurd part
