-- A FRAME FOR ONE SLAVE, with what is meant by its mails: what was sent, as the half that holds a mail means it, and what comes back.
use Rattle.std.proofs.Common.{◌≡◌, inl, inr, ℕ, ◌==◌, Bool, true, false, Option, None, Some, List, [], ◌∷◌, refl, ap, ap₂, sym, ◌∙◌, subst, if◌then◌else◌}
use Rattle.std.specs.Prelude.{⊤}
use Rattle.few_replies.specs.of_life_model.Lives.{ReadsFull}
use Rattle.few_replies.specs.of_life_model.Own as Own
use Rattle.few_replies.specs.of_link_model.Frames as Link
use Rattle.few_replies.specs.of_link_model.Frames.{Ask, IsSent, in_ask}
use Rattle.few_replies.specs.of_link_model.Mails.{LinkMail}
use Rattle.few_replies.specs.of_link_model.Master.{InHalf, InState}
use Rattle.few_replies.specs.Led.{IsSingle, AreSingle}
use Rattle.master_hand.specs.of_segment_model.Record.{is_for}
use Rattle.master_hand.specs.of_segment_model.Slaves.{Datagram, Address, Slave, grams, address_behind, slave_meets, frame_after, Access}
use Rattle.master_hand.specs.of_serving_model.Erasing.{box_as, ask_as, datagram_as, all_as}
use Rattle.master_hand.specs.of_serving_model.Tagged.{Meant, Tagged}
use Rattle.master_hand.specs.of_state_model.Accounts.{IsServed, IsServed.nothing, IsServed.other, IsServed.quiet, IsServed.own}

-- ---- a mail of which nothing is known gets no meaning
module _ {M : Type 0} (Q : Type 0) where
  abbrev mail : Tagged M Q → M
  mail t = t.mail

  abbrev plain_mail : LinkMail M → LinkMail (Tagged M Q)
  plain_mail m = record { counter = m.counter; body = record { mail = m.body; meant = Meant.Own } }

  abbrev plain_box : Option (LinkMail M) → Option (LinkMail (Tagged M Q))
  plain_box None = None
  plain_box (Some m) = Some (plain_mail m)

  abbrev plain_ask : Ask M → Ask (Tagged M Q)
  plain_ask (Ask.WriteMail m) = Ask.WriteMail (plain_mail m)
  plain_ask Ask.ReadMail = Ask.ReadMail
  plain_ask (Ask.WriteRequest bit) = Ask.WriteRequest bit
  plain_ask Ask.ReadAcknowledge = Ask.ReadAcknowledge
  plain_ask Ask.Other = Ask.Other

  box_is : (box : Option (LinkMail M)) → box_as mail (plain_box box) ≡ box
  box_is None = refl
  box_is (Some m) = refl

  ask_is : (a : Ask M) → ask_as mail (plain_ask a) ≡ a
  ask_is (Ask.WriteMail m) = refl
  ask_is Ask.ReadMail = refl
  ask_is (Ask.WriteRequest bit) = refl
  ask_is Ask.ReadAcknowledge = refl
  ask_is Ask.Other = refl

  -- a datagram that asks this
  abbrev asking : Datagram M → Ask (Tagged M Q) → Datagram (Tagged M Q)
  asking d a = record {
    gram = record { station = d.gram.station; ask = a; counter = d.gram.counter; mail = plain_box d.gram.mail; acknowledge = d.gram.acknowledge };
    address = d.address;
    access = d.access;
    counter = d.counter;
    found = d.found;
  }

  asking_is : (d : Datagram M) (a : Ask (Tagged M Q)) → ask_as mail a ≡ d.gram.ask → datagram_as mail (asking d a) ≡ d
  asking_is d a e = ap₂ (λ (k : Ask M) (box : Option (LinkMail M)). record {
    gram = record { station = d.gram.station; ask = k; counter = d.gram.counter; mail = box; acknowledge = d.gram.acknowledge };
    address = d.address;
    access = d.access;
    counter = d.counter;
    found = d.found;
  }) e (box_is d.gram.mail)

  -- WHAT WAS SENT, as the halves mean it
  pub record Meaning (station : ℕ) (held : Option (LinkMail (Tagged M Q))) (inn : Option InHalf) (ds : List (Datagram M)) : Type 0 where
    pub datagrams : List (Datagram (Tagged M Q))
    pub is : all_as mail datagrams ≡ ds
    pub sent : IsSent held inn (Link.own station (grams datagrams))

  module _ (station : ℕ) (d : Datagram M) (ds : List (Datagram M)) where
    -- one more datagram, to this station or to another
    to_it : (held : Option (LinkMail (Tagged M Q))) (inn : Option InHalf) (a : Ask (Tagged M Q)) (later : List (Datagram (Tagged M Q))) → ask_as mail a ≡ d.gram.ask → all_as mail later ≡ ds → (d.gram.station == station) ≡ true →
        IsSent held inn ((asking d a).gram ∷ Link.own station (grams later)) → Meaning station held inn (d ∷ ds)
    to_it held inn a later e is at sent = record {
      datagrams = asking d a ∷ later;
      is = ap₂ (λ (k : Datagram M) (l : List (Datagram M)). k ∷ l) (asking_is d a e) is;
      sent = subst (λ (b : Bool). IsSent held inn (if b then (asking d a).gram ∷ Link.own station (grams later) else Link.own station (grams later))) (sym at) sent;
    }

    to_other : (held : Option (LinkMail (Tagged M Q))) (inn : Option InHalf) → (d.gram.station == station) ≡ false → Meaning station held inn ds → Meaning station held inn (d ∷ ds)
    to_other held inn at m = record {
      datagrams = asking d (plain_ask d.gram.ask) ∷ m.datagrams;
      is = ap₂ (λ (k : Datagram M) (l : List (Datagram M)). k ∷ l) (asking_is d (plain_ask d.gram.ask) (ask_is d.gram.ask)) m.is;
      sent = subst (λ (b : Bool). IsSent held inn (if b then (asking d (plain_ask d.gram.ask)).gram ∷ Link.own station (grams m.datagrams) else Link.own station (grams m.datagrams))) (sym at) m.sent;
    }

    inward_ask : (state : InState) (bit : Bool) → plain_ask (in_ask {B = M} state bit) ≡ in_ask state bit
    inward_ask InState.Clear bit = refl
    inward_ask InState.Doubt bit = refl
    inward_ask InState.Asked bit = refl
    inward_ask InState.Refetch bit = refl

    abbrev Later : Type 0
    Later = (held : Option (LinkMail (Tagged M Q))) (inn : Option InHalf) → IsSent (box_as mail held) inn (Link.own station (grams ds)) → Meaning station held inn ds

    mine : (held : Option (LinkMail (Tagged M Q))) (inn : Option InHalf) → (d.gram.station == station) ≡ true → IsSent (box_as mail held) inn (d.gram ∷ Link.own station (grams ds)) → Later → Meaning station held inn (d ∷ ds)
    mine None inn at (IsSent.other g gs ask rest) later =
        let m = later None inn rest in
        to_it None inn (plain_ask d.gram.ask) m.datagrams (ask_is d.gram.ask) m.is at (IsSent.other _ _ (ap plain_ask ask) m.sent)
    mine (Some h) inn at (IsSent.other g gs ask rest) later =
        let m = later (Some h) inn rest in
        to_it (Some h) inn (plain_ask d.gram.ask) m.datagrams (ask_is d.gram.ask) m.is at (IsSent.other _ _ (ap plain_ask ask) m.sent)
    mine (Some h) inn at (IsSent.write k g gs ask counter rest) later =
        let m = later None inn rest in
        to_it (Some h) inn (Ask.WriteMail h) m.datagrams (sym ask) m.is at (IsSent.write h _ _ refl counter m.sent)
    mine None (Some i) at (IsSent.inward k g gs ask counter rest) later =
        let m = later None None rest in
        to_it None (Some i) (plain_ask d.gram.ask) m.datagrams (ask_is d.gram.ask) m.is at (IsSent.inward i _ _ (ap plain_ask ask ∙ inward_ask i.state i.bit) counter m.sent)
    mine (Some h) (Some i) at (IsSent.inward k g gs ask counter rest) later =
        let m = later (Some h) None rest in
        to_it (Some h) (Some i) (plain_ask d.gram.ask) m.datagrams (ask_is d.gram.ask) m.is at (IsSent.inward i _ _ (ap plain_ask ask ∙ inward_ask i.state i.bit) counter m.sent)

    by_station : (b : Bool) → (d.gram.station == station) ≡ b → (held : Option (LinkMail (Tagged M Q))) (inn : Option InHalf) → IsSent (box_as mail held) inn (if b then d.gram ∷ Link.own station (grams ds) else Link.own station (grams ds)) → Later → Meaning station held inn (d ∷ ds)
    by_station true at held inn sent later = mine held inn at sent later
    by_station false at held inn sent later = to_other held inn at (later held inn sent)

  pub meaning : (station : ℕ) (ds : List (Datagram M)) (held : Option (LinkMail (Tagged M Q))) (inn : Option InHalf) → IsSent (box_as mail held) inn (Link.own station (grams ds)) → Meaning station held inn ds
  meaning station [] held inn sent = record { datagrams = []; is = refl; sent = IsSent.nothing }
  meaning station (d ∷ ds) held inn sent = by_station station d ds (d.gram.station == station) refl held inn sent (λ h i k. meaning station ds h i k)

-- ---- what the meaning of mails leaves of a frame
module _ {N M : Type 0} (f : N → M) (station : ℕ) where
  pub reads_as : (ts : List (Datagram N)) → ReadsFull station ts → ReadsFull station (all_as f ts)
  reads_as [] r = r
  reads_as (t ∷ ts) (inl e) = inl e
  reads_as (t ∷ ts) (inr e) = inr (reads_as ts e)

  pub served_as : (access : Option Access) (ts : List (Datagram N)) → IsServed station access (all_as f ts) → IsServed station access ts
  served_as access [] k = nothing
  served_as access (t ∷ ts) (other d ds is rest) = other t ts (record { other = is.other; address = is.address; apart = is.apart; later = is.later }) (served_as access ts rest)
  served_as access (t ∷ ts) (quiet d ds is none rest) = quiet t ts is none (served_as access ts rest)
  served_as (Some a) (t ∷ ts) (own d ds at none rest) = own t ts at none (served_as None ts rest)

  other_as : (a : Ask N) → ask_as f a ≡ Ask.Other → a ≡ Ask.Other
  other_as (Ask.WriteMail m) e = absurd (cc)
  other_as Ask.ReadMail e = absurd (cc)
  other_as (Ask.WriteRequest bit) e = absurd (cc)
  other_as Ask.ReadAcknowledge e = absurd (cc)
  other_as Ask.Other e = refl

  pub single_as : (ts : List (Datagram N)) → AreSingle (all_as f ts) → AreSingle ts
  single_as [] k = tt
  single_as (t ∷ ts) k = (one k.0, single_as ts k.1)
    where
      one : IsSingle (datagram_as f t) → IsSingle t
      one (inl e) = inl (other_as t.gram.ask e)
      one (inr e) = inr e

-- the slave's own datagrams are to its station, and come back so
behind_to : (station : ℕ) (a : Address) → is_for station a ≡ true → is_for station (address_behind a) ≡ true
behind_to station (Address.Station at) e = e
behind_to station (Address.Place n) e = absurd (let no : false ≡ true = e in cc)
behind_to station Address.Passed e = absurd (let no : false ≡ true = e in cc)

module _ {K : Type 0} (station : ℕ) where
  abbrev pub ToIt : List (Datagram K) → Type 0
  ToIt [] = ⊤
  ToIt (d ∷ ds) = (is_for station d.address ≡ true) × ToIt ds

  pub own_to : (ds : List (Datagram K)) → ToIt (Own.own station ds)
  own_to [] = tt
  own_to (d ∷ ds) = go (is_for station d.address) refl (own_to ds)
    where
      go : (b : Bool) → is_for station d.address ≡ b → ToIt (Own.own station ds) → ToIt (if b then d ∷ Own.own station ds else Own.own station ds)
      go true e rest = (e, rest)
      go false e rest = rest

  pub to_own : (ds : List (Datagram K)) → ToIt ds → Own.own station ds ≡ ds
  to_own [] k = refl
  to_own (d ∷ ds) k = ap₂ (λ (b : Bool) (l : List (Datagram K)). if b then d ∷ l else Own.own station ds) k.0 (to_own ds k.1)

  pub frame_to : {V : Type 0} (k : ℕ) (s : Slave V K) (ds : List (Datagram K)) → ToIt ds → ToIt (frame_after k s ds)
  frame_to k s [] all = tt
  frame_to k s (d ∷ ds) all = (behind_to station d.address all.0, frame_to k (slave_meets k s d) ds all.1)

-- whatever its mails mean
pub to_as : {N M : Type 0} (f : N → M) (station : ℕ) (ts : List (Datagram N)) → ToIt station (all_as f ts) → ToIt station ts
to_as f station [] k = tt
to_as f station (t ∷ ts) k = (k.0, to_as f station ts k.1)
