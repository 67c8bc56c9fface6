-- Fragments of packets in order, the first of them, and what is joined of these.
use Rattle.std.proofs.Common.{◌≡◌, ◌⊎◌, inl, inr, ℕ, ◌-◌, ◌*◌, ◌/◌, ◌≤◌, Bool, true, false, cond, Option, Some, None, List, [], ◌∷◌, ◌++◌, refl, ap, ap₂, sym, ◌∙◌, subst, append_assoc}
use Rattle.master_node.specs.of_eoe.declared.message.Fragment.{Fragment}
use Rattle.master_node.specs.of_eoe.declared.joining.Joined.{Joined}
use Rattle.master_node.specs.of_eoe.declared.joining.Joined.TheVariants.{More, Whole, Dropped}
use Rattle.master_node.specs.of_eoe.declared.joining.Unfinished.{Unfinished}
use Rattle.master_node.specs.of_eoe.Cutting.{fragments_of}
use Rattle.master_node.specs.of_eoe.Joining.{taken, joins, GivesWhole}
use Rattle.master_node.proofs.of_eoe.Whole.{every_area_gives_the_packet}
use Rattle.slave_server.specs.of_exchange_model.Prefix.{IsPrefixOf}
use Rattle.slave_server.specs.of_exchange_model.Exchange.{Exchange, emitted}
use Rattle.slave_server.specs.of_state_model.States.{Table}
use Rattle.slave_server.specs.of_state_model.Stated.{Stated, Service}
use Rattle.master_node.specs.of_life_model.Book.{Line, EpochBook, EpochFits, acted, emits_by, all_emits}
use Rattle.packets_heard.specs.Packets.{Emitted, ArePackets, all_fragments, octets_of, wholes, NoneDropped, HasArrived, HaveAllArrived, as_part, parts, IsOwn, IsCut, AreCut, packets_by, packets_of}

-- what is unfinished behind fragments
abbrev behind : Option Unfinished → List Fragment → Option Unfinished
behind before [] = before
behind before (f ∷ fs) = behind (taken before f).unfinished fs

joins-append : (before : Option Unfinished) (fs gs : List Fragment) → joins before (fs ++ gs) ≡ joins before fs ++ joins (behind before fs) gs
joins-append before [] gs = refl
joins-append before (f ∷ fs) gs = ap (λ l. (taken before f).joined ∷ l) (joins-append (taken before f).unfinished fs gs)

wholes-append : (js ks : List Joined) → wholes (js ++ ks) ≡ wholes js ++ wholes ks
wholes-append [] ks = refl
wholes-append (More ∷ js) ks = wholes-append js ks
wholes-append (Whole p ∷ js) ks = ap (λ l. p.items ∷ l) (wholes-append js ks)
wholes-append (Dropped ∷ js) ks = wholes-append js ks

none-append : (js ks : List Joined) → NoneDropped js → NoneDropped ks → NoneDropped (js ++ ks)
none-append [] ks a b = b
none-append (More ∷ js) ks a b = none-append js ks a b
none-append (Whole p ∷ js) ks a b = none-append js ks a b
none-append (Dropped ∷ js) ks a b = absurd a

-- the fragments of a whole packet give it
gives_one : (packet : List ℕ) (js : List Joined) → GivesWhole packet js → (wholes js ≡ packet ∷ []) × NoneDropped js
gives_one packet [] g = absurd g
gives_one packet (More ∷ js) g = gives_one packet js g
gives_one packet (Whole p ∷ []) g = (ap (λ l. l ∷ []) g, tt)
gives_one packet (Whole p ∷ (j ∷ js)) g = absurd g
gives_one packet (Dropped ∷ js) g = absurd g

-- some of them, but not all, give none
gives_none : (packet : List ℕ) (js : List Joined) (k : Joined) (ks : List Joined) → GivesWhole packet (js ++ k ∷ ks) → (wholes js ≡ []) × NoneDropped js
gives_none packet [] k ks g = (refl, tt)
gives_none packet (More ∷ js) k ks g = gives_none packet js k ks g
gives_none packet (Whole p ∷ []) k ks g = absurd g
gives_none packet (Whole p ∷ (j ∷ js)) k ks g = absurd g
gives_none packet (Dropped ∷ js) k ks g = absurd g

-- a first part of two lists is all of the one and a first part of the other, or a first part of the one
record IsPast {X : Type 0} (heard rest xs ys : List X) : Type 0 where
  more : List X
  is : heard ≡ xs ++ more
  others : more ++ rest ≡ ys

record IsIn {X : Type 0} (heard xs : List X) : Type 0 where
  next : X
  more : List X
  all : heard ++ next ∷ more ≡ xs

split : {X : Type 0} (heard rest xs ys : List X) → heard ++ rest ≡ xs ++ ys → IsPast heard rest xs ys ⊎ IsIn heard xs
split heard rest [] ys e = inl (record { more = heard; is = refl; others = e })
split [] rest (x ∷ xs) ys e = inr (record { next = x; more = xs; all = refl })
split (h ∷ heard) rest (x ∷ xs) ys e =
    let head : h ≡ x = (let same : h ∷ (heard ++ rest) ≡ x ∷ (xs ++ ys) = e in cc) in
    let tail : heard ++ rest ≡ xs ++ ys = (let same : h ∷ (heard ++ rest) ≡ x ∷ (xs ++ ys) = e in cc) in
    elim (split heard rest xs ys tail) [
      | inl p ↦ inl (record { more = p.more; is = ap₂ (λ (a : _) (l : List _). a ∷ l) head p.is; others = p.others })
      | inr i ↦ inr (record { next = i.next; more = i.more; all = ap₂ (λ (a : _) (l : List _). a ∷ l) head i.all })
    ]

module _ (room : ℕ) (wide : 64 ≤ room) where
  abbrev cut : Emitted → List Fragment
  cut p = fragments_of p.octets (32 * ((room - 10) / 32)) p.frame

  record Arrives (before : Option Unfinished) (heard : List Fragment) (ps : List Emitted) : Type 0 where
    packets : IsPrefixOf (wholes (joins before heard)) (octets_of ps)
    none : NoneDropped (joins before heard)

  first_of : (ps : List Emitted) → ArePackets ps → (before : Option Unfinished) (heard rest : List Fragment) → heard ++ rest ≡ all_fragments room ps → Arrives before heard ps
  first_of [] are before [] rest e = record { packets = ([], refl); none = tt }
  first_of [] are before (h ∷ heard) rest e = absurd (let clash : h ∷ (heard ++ rest) ≡ [] = e in cc)
  first_of (p ∷ ps) are before heard rest e = go (split heard rest (cut p) (all_fragments room ps) e) (λ more k. first_of ps are.1 (behind before (cut p)) more rest k)
    where
      whole : GivesWhole p.octets (joins before (cut p))
      whole = every_area_gives_the_packet before p.octets room p.frame are.0.0 are.0.1 wide

      go : IsPast heard rest (cut p) (all_fragments room ps) ⊎ IsIn heard (cut p) → ((more : List Fragment) → more ++ rest ≡ all_fragments room ps → Arrives (behind before (cut p)) more ps) → Arrives before heard (p ∷ ps)
      go (inl past) later =
          let l = later past.more past.others in
          let one = gives_one p.octets (joins before (cut p)) whole in
          let all : joins before heard ≡ joins before (cut p) ++ joins (behind before (cut p)) past.more = ap (joins before) past.is ∙ joins-append before (cut p) past.more in
          let given : wholes (joins before heard) ≡ p.octets ∷ wholes (joins (behind before (cut p)) past.more) =
          ap wholes all ∙ wholes-append (joins before (cut p)) (joins (behind before (cut p)) past.more) ∙ ap (λ l. l ++ wholes (joins (behind before (cut p)) past.more)) one.0 in
          record {
            packets = (l.packets.0, ap (λ k. k ++ l.packets.0) given ∙ ap (λ k. p.octets ∷ k) l.packets.1);
            none = subst NoneDropped (sym all) (none-append (joins before (cut p)) (joins (behind before (cut p)) past.more) one.1 l.none);
          }
      go (inr i) later =
          let all : joins before (cut p) ≡ joins before heard ++ joins (behind before heard) (i.next ∷ i.more) = ap (joins before) (sym i.all) ∙ joins-append before heard (i.next ∷ i.more) in
          let none = gives_none p.octets (joins before heard) (taken (behind before heard) i.next).joined (joins (taken (behind before heard) i.next).unfinished i.more) (subst (GivesWhole p.octets) all whole) in
          record { packets = (octets_of (p ∷ ps), ap (λ k. k ++ octets_of (p ∷ ps)) none.0); none = none.1 }

  pub joined_first : (ps : List Emitted) → ArePackets ps → (heard rest : List Fragment) → heard ++ rest ≡ all_fragments room ps → HasArrived heard ps
  joined_first ps are heard rest e = let a = first_of ps are None heard rest e in record { packets = a.packets; none = a.none }

  all_of : (ps : List Emitted) → ArePackets ps → (before : Option Unfinished) → (wholes (joins before (all_fragments room ps)) ≡ octets_of ps) × NoneDropped (joins before (all_fragments room ps))
  all_of [] are before = (refl, tt)
  all_of (p ∷ ps) are before =
      let one = gives_one p.octets (joins before (cut p)) (every_area_gives_the_packet before p.octets room p.frame are.0.0 are.0.1 wide) in
      let rest = all_of ps are.1 (behind before (cut p)) in
      let all = joins-append before (cut p) (all_fragments room ps) in (
        ap wholes all ∙ wholes-append (joins before (cut p)) (joins (behind before (cut p)) (all_fragments room ps)) ∙ ap₂ (λ (k l : List (List ℕ)). k ++ l) one.0 rest.0,
        subst NoneDropped (sym all) (none-append (joins before (cut p)) (joins (behind before (cut p)) (all_fragments room ps)) one.1 rest.1),
      )

  pub joined_all : (ps : List Emitted) → ArePackets ps → HaveAllArrived (all_fragments room ps) ps
  joined_all ps are = let a = all_of ps are None in record { packets = a.0; none = a.1 }

-- the fragments among mails
parts-append : {M : Type 0} (part : M → Option Fragment) (ms ns : List M) → parts part (ms ++ ns) ≡ parts part ms ++ parts part ns
parts-append part [] ns = refl
parts-append part (m ∷ ms) ns = ap (λ l. as_part (part m) ++ l) (parts-append part ms ns) ∙ sym (append_assoc (as_part (part m)) (parts part ms) (parts part ns))

fragments-append : (room : ℕ) (ps qs : List Emitted) → all_fragments room (ps ++ qs) ≡ all_fragments room ps ++ all_fragments room qs
fragments-append room [] qs = refl
fragments-append room (p ∷ ps) qs =
    let one = fragments_of p.octets (32 * ((room - 10) / 32)) p.frame in
    ap (λ l. one ++ l) (fragments-append room ps qs) ∙ sym (append_assoc one (all_fragments room ps) (all_fragments room qs))

are-append : (ps qs : List Emitted) → ArePackets ps → ArePackets qs → ArePackets (ps ++ qs)
are-append [] qs a b = b
are-append (p ∷ ps) qs a b = (a.0, are-append ps qs a.1 b)

pub heard_own : {M : Type 0} (emission : M → Bool) (part : M → Option Fragment) → IsOwn emission part → (hs : List M) → parts part hs ≡ parts part (emitted emission hs)
heard_own emission part own [] = refl
heard_own emission part own (h ∷ hs) = go (part h) refl (emission h) refl (heard_own emission part own hs)
  where
    go : (o : Option Fragment) → part h ≡ o → (b : Bool) → emission h ≡ b → parts part hs ≡ parts part (emitted emission hs) → as_part o ++ parts part hs ≡ parts part (cond b (h ∷ emitted emission hs) (emitted emission hs))
    go None is false e rest = rest
    go None is true e rest = rest ∙ ap (λ k. as_part k ++ parts part (emitted emission hs)) (sym is)
    go (Some f) is true e rest = ap (λ l. f ∷ l) rest ∙ ap (λ k. as_part k ++ parts part (emitted emission hs)) (sym is)
    go (Some f) is false e rest = absurd (let must = own h f is in cc)

module _ {V A M Q R : Type 0} (x : Exchange V A M Q R) (s : Stated V A Q) (table : Table) (cleared : A → A) (weigh : A → Q → ℕ) (room : ℕ) (part : M → Option Fragment) (packets : A → Q → List Emitted)
    (wide : 64 ≤ room) where
  abbrev Cut : A → List (Line Q R) → Type 0
  Cut a ls = AreCut x s table cleared weigh room part packets a ls

  abbrev emits : A → List (Line Q R) → List M
  emits a ls = all_emits x s table cleared weigh a ls

  abbrev sent : A → List (Line Q R) → List Emitted
  sent a ls = packets_of x s table cleared weigh room part packets a ls

  row_cut : (a : A) (service : Service Q) → IsCut x s table cleared weigh room part packets a service → parts part (emits_by x s table cleared weigh a service) ≡ all_fragments room (packets_by x s table cleared weigh room part packets a service)
  row_cut a (Service.Mails q) are = are.0
  row_cut a (Service.State target) are = refl

  row_are : (a : A) (service : Service Q) → IsCut x s table cleared weigh room part packets a service → ArePackets (packets_by x s table cleared weigh room part packets a service)
  row_are a (Service.Mails q) are = are.1
  row_are a (Service.State target) are = tt

  all_cut : (a : A) (ls : List (Line Q R)) → Cut a ls → parts part (emits a ls) ≡ all_fragments room (sent a ls)
  all_cut a [] are = refl
  all_cut a (l ∷ ls) are =
      let b = acted x s table cleared weigh a l.service in
      parts-append part (emits_by x s table cleared weigh a l.service) (emits b ls) ∙ ap₂ (λ (k m : List Fragment). k ++ m) (row_cut a l.service are.0) (all_cut b ls are.1)
      ∙ sym (fragments-append room (packets_by x s table cleared weigh room part packets a l.service) (sent b ls))

  all_are : (a : A) (ls : List (Line Q R)) → Cut a ls → ArePackets (sent a ls)
  all_are a [] are = tt
  all_are a (l ∷ ls) are =
      let b = acted x s table cleared weigh a l.service in are-append (packets_by x s table cleared weigh room part packets a l.service) (sent b ls) (row_are a l.service are.0) (all_are b ls are.1)

  pub epoch_first : (a : A) (e : EpochBook M Q R) (ds : List (Line Q R)) → Cut a ds → EpochFits x s table cleared weigh a e ds → HasArrived (parts part e.received) (sent a ds)
  epoch_first a e ds are f =
      let rest = f.emissions.0 in
      joined_first room wide (sent a ds) (all_are a ds are) (parts part e.received) (parts part rest) (sym (parts-append part e.received rest) ∙ ap (parts part) f.emissions.1 ∙ all_cut a ds are)

  pub epoch_all : (a : A) (e : EpochBook M Q R) → Cut a e.lines → e.received ≡ emits a e.lines → HaveAllArrived (parts part e.received) (sent a e.lines)
  epoch_all a e are is = subst (λ l. HaveAllArrived l (sent a e.lines)) (sym (ap (parts part) is ∙ all_cut a e.lines are)) (joined_all room wide (sent a e.lines) (all_are a e.lines are))
