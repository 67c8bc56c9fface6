-- A PACKET THAT IS OVER stays so, whatever is held, heard or lost; and one that came into hand isn't over before its fragments are written.
use Rattle.std.proofs.Common.{◌≡◌, ◌⊎◌, inl, inr, ◌==◌, ℕ, Bool, true, false, Option, Some, None, List, [], ◌∷◌, ◌++◌, length, refl, sym, ap, ◌∙◌, subst}
use Rattle.std.specs.Prelude.{◌&&◌, not, drop, is_none, is_some, if◌then◌else◌, option_map}
use Rattle.life_runs.specs.of_exchange_model.Areas.{Areas}
use Rattle.life_runs.specs.of_link_model.Frames.{Ask, Gram, halves_after, halves_answered, halves_lost, halves_without}
use Rattle.life_runs.specs.of_link_model.Link.{Halves}
use Rattle.life_runs.specs.of_link_model.Mails.{LinkMail}
use Rattle.life_runs.specs.of_master_duty.Reply.{Reply}
use Rattle.life_runs.specs.of_exchange_model.Exchange.{Speech, plain}
use Rattle.life_runs.specs.of_exchange_model.Rows.{Row, answer_after, begun, left, row_heard, row_told}
use Rattle.life_runs.specs.of_segment_model.Seats.{Side, is_none_left, next_mail, side_holds}
use Rattle.life_runs.specs.of_state_model.Accounts.{is_free}
use Rattle.life_runs.proofs.of_master_hand.Firsts.{some_planned}
use Rattle.life_runs.specs.of_master_hand.Spoken.{Asked, emission, drive, ends, file, hand_speech, handed, is_passed, net, passed, planned, sdo}
use Rattle.life_runs.specs.of_protocol_models.EoeClient as EoeClient
use Rattle.life_runs.specs.of_link_mails.Body.{Body}
use Rattle.master_node.specs.Begins.{is_other}
use Rattle.master_node.proofs.Newest.{Newest}

-- THE OUTWARD HALF: where it holds nothing, it holds nothing behind a frame that came back
idle_one : (h : Halves Body) (ask : Ask Body) (g : Gram Body) → h.out.holding ≡ None → (halves_answered h ask g).out.holding ≡ None
idle_one h (Ask.WriteMail m) g e = go (g.counter == 0)
  where
    go : (b : Bool) → (if b then h.out else record h.out { holding = None }).holding ≡ None
    go true = e
    go false = refl
idle_one h Ask.ReadMail g e = e
idle_one h (Ask.WriteRequest bit) g e = e
idle_one h Ask.ReadAcknowledge g e = e
idle_one h Ask.Other g e = e

idle_at : (h : Halves Body) (g : Gram Body) (b : Bool) → h.out.holding ≡ None → (if b then halves_answered h g.ask g else h).out.holding ≡ None
idle_at h g true e = idle_one h g.ask g e
idle_at h g false e = e

pub idle_back : (station : ℕ) (h : Halves Body) (gs : List (Gram Body)) → h.out.holding ≡ None → (halves_after station h gs).out.holding ≡ None
idle_back station h [] e = e
idle_back station h (g ∷ gs) e = idle_back station (if g.station == station then halves_answered h g.ask g else h) gs (idle_at h g (g.station == station) e)

-- and a lost frame leaves it
out_one : (h : Halves Body) (ask : Ask Body) (b : Bool) → (if b then halves_lost h ask else h).out ≡ h.out
out_one h ask false = refl
out_one h (Ask.WriteMail m) true = refl
out_one h Ask.ReadMail true = refl
out_one h (Ask.WriteRequest bit) true = refl
out_one h Ask.ReadAcknowledge true = refl
out_one h Ask.Other true = refl

pub out_lost : (station : ℕ) (h : Halves Body) (gs : List (Gram Body)) → (halves_without station h gs).out ≡ h.out
out_lost station h [] = refl
out_lost station h (g ∷ gs) = out_lost station (if g.station == station then halves_lost h g.ask else h) gs ∙ out_one h g.ask (g.station == station)

module _ (areas : Areas) where
  abbrev x : Speech Body Asked Reply
  x = hand_speech areas

  -- A PACKET is handed over, and plans and completes the same whatever is heard
  packet_handed : (q : Asked) → is_other q ≡ false → handed areas q ≡ true
  packet_handed (net (EoeClient.packet octets frame)) e = refl
  packet_handed _ e = absurd (let bad : true ≡ false = e in cc)

  packet_planned : (q : Asked) (hs : List Body) → is_other q ≡ false → planned areas q hs ≡ planned areas q []
  packet_planned (net (EoeClient.packet octets frame)) hs e = refl
  packet_planned _ hs e = absurd (let bad : true ≡ false = e in cc)

  pub packet_ends : (q : Asked) (hs : List Body) → is_other q ≡ false → ends areas q hs ≡ None
  packet_ends (net (EoeClient.packet octets frame)) hs e = refl
  packet_ends _ hs e = absurd (let bad : true ≡ false = e in cc)

  -- whatever it heard, the same fragments are left of it
  packet_left : (r : Row Body Asked Reply) → is_other r.service ≡ false → left x r ≡ drop (length r.told) (planned areas r.service [])
  packet_left r e = ap (λ (ms : List Body). drop (length r.told) ms) (packet_planned r.service (plain emission r.heard) e)

  -- and it has no answer
  pub heard_unanswered : (frame : ℕ) (ms : List Body) (r : Row Body Asked Reply) → is_other r.service ≡ false → (row_heard x frame ms r).answer ≡ r.answer
  heard_unanswered frame ms r e = ap (λ (found : Option Reply). answer_after frame r.answer found) (packet_ends r.service (plain emission (r.heard ++ ms)) e) ∙ stays r.answer
    where
      stays : (o : Option (Reply × ℕ)) → answer_after frame o None ≡ o
      stays None = refl
      stays (Some a) = refl

  -- while a fragment is held that was not yet sent it isn't over
  pub held_open : (d : Side Body Asked Reply) (r : Row Body Asked Reply) → is_some d.halves.out.holding ≡ true → d.fresh ≡ true → is_free x d (Some r) ≡ false
  held_open d r h f = go (is_none_left (left x r)) (handed areas r.service && is_none r.answer) (is_some r.answer) d.halves.out.holding h d.fresh f
    where
      go : (a b s : Bool) (holding : Option (LinkMail Body)) → is_some holding ≡ true → (fresh : Bool) → fresh ≡ true → (a && (if b then is_none holding else s && not fresh)) ≡ false
      go false b s holding h fresh f = refl
      go true b s None h fresh f = absurd (let bad : false ≡ true = h in cc)
      go true b s (Some m) h false f = absurd (let bad : false ≡ true = f in cc)
      go true true s (Some m) h true f = refl
      go true false true (Some m) h true f = refl
      go true false false (Some m) h true f = refl

  -- A SERVICE OF THE SCRIPT that is over has its answer
  script_handed : (q : Asked) → is_passed q ≡ false → is_other q ≡ true → handed areas q ≡ false
  script_handed (sdo q) p e = refl
  script_handed (file q) p e = refl
  script_handed (drive q) p e = refl
  script_handed (net (EoeClient.packet octets frame)) p e = absurd (let bad : false ≡ true = e in cc)
  script_handed (net (EoeClient.set_ip block)) p e = refl
  script_handed (net EoeClient.get_ip) p e = refl
  script_handed (passed m) p e = absurd (let bad : true ≡ false = p in cc)

  fst_of : (a b c : Bool) → (a && (b && c)) ≡ true → b ≡ true
  fst_of true true c e = refl
  fst_of true false c e = absurd (let bad : false ≡ true = e in cc)
  fst_of false b c e = absurd (let bad : false ≡ true = e in cc)

  pub script_answered : (d : Side Body Asked Reply) (r : Row Body Asked Reply) → is_passed r.service ≡ false → is_other r.service ≡ true → is_free x d (Some r) ≡ true → is_some r.answer ≡ true
  script_answered d r p o f =
      fst_of (is_none_left (left x r)) (is_some r.answer) (not d.fresh)
      (sym (ap (λ (z : Bool). is_none_left (left x r) && (if z && is_none r.answer then is_none d.halves.out.holding else is_some r.answer && not d.fresh)) (script_handed r.service p o)) ∙ f)

  -- A ROW OF THE SAME PACKET, with as many fragments taken up, and answered as it was
  pub record SamePacket (r k : Row Body Asked Reply) : Type 0 where
    pub service : k.service ≡ r.service
    pub told : k.told ≡ r.told
    pub answer : k.answer ≡ r.answer

  same_left : (r k : Row Body Asked Reply) → is_other r.service ≡ false → SamePacket r k → left x k ≡ left x r
  same_left r k e s = packet_left k (ap is_other s.service ∙ e) ∙ (λ i. drop (length (s.told i)) (planned areas (s.service i) [])) ∙ sym (packet_left r e)

  -- is over as it was, where the same is held and as much of it sent, or where it has no answer
  pub same_over : (d f : Side Body Asked Reply) (r k : Row Body Asked Reply) → is_other r.service ≡ false → SamePacket r k → f.halves.out.holding ≡ d.halves.out.holding → (r.answer ≡ None) ⊎ (f.fresh ≡ d.fresh) → is_free x f (Some k) ≡ is_free x d (Some r)
  same_over d f r k e s h either =
      (λ i. is_none_left (same_left r k e s i) && (if handed areas (s.service i) && is_none (s.answer i) then is_none (h i) else is_some (s.answer i) && not f.fresh)) ∙ go either
    where
      go : (r.answer ≡ None) ⊎ (f.fresh ≡ d.fresh) → (is_none_left (left x r) && (if handed areas r.service && is_none r.answer then is_none d.halves.out.holding else is_some r.answer && not f.fresh)) ≡ is_free x d (Some r)
      go (inr same) = ap (λ (z : Bool). is_none_left (left x r) && (if handed areas r.service && is_none r.answer then is_none d.halves.out.holding else is_some r.answer && not z)) same
      go (inl none) =
          ap (λ (o : Option (Reply × ℕ)). is_none_left (left x r) && (if handed areas r.service && is_none o then is_none d.halves.out.holding else is_some o && not f.fresh)) none
          ∙ sym (ap (λ (o : Option (Reply × ℕ)). is_none_left (left x r) && (if handed areas r.service && is_none o then is_none d.halves.out.holding else is_some o && not d.fresh)) none)

  none_held : {T : Type 0} (o p : Option T) → (o ≡ None → p ≡ None) → is_none o ≡ true → is_none p ≡ true
  none_held None p f e = ap is_none (f refl)
  none_held (Some t) p f e = absurd (let bad : false ≡ true = e in cc)

  -- and stays over, where nothing is held that wasn't, and what was sent stays sent
  pub stays_over : (d f : Side Body Asked Reply) (r k : Row Body Asked Reply) → is_other r.service ≡ false → SamePacket r k → (d.halves.out.holding ≡ None → f.halves.out.holding ≡ None) → (d.fresh ≡ false → f.fresh ≡ false) → is_free x d (Some r) ≡ true → is_free x f (Some k) ≡ true
  stays_over d f r k e s h sent t =
      (λ i. is_none_left (same_left r k e s i) && (if handed areas (s.service i) && is_none (s.answer i) then is_none f.halves.out.holding else is_some (s.answer i) && not f.fresh))
      ∙ go (is_none_left (left x r)) (handed areas r.service && is_none r.answer) (is_some r.answer) d.fresh refl t
    where
      off : (b : Bool) → b ≡ false → not b ≡ true
      off b e = ap not e

      go : (a b s fresh : Bool) → d.fresh ≡ fresh → (a && (if b then is_none d.halves.out.holding else s && not fresh)) ≡ true → (a && (if b then is_none f.halves.out.holding else s && not f.fresh)) ≡ true
      go false b s fresh new t = absurd (let bad : false ≡ true = t in cc)
      go true true s fresh new t = none_held d.halves.out.holding f.halves.out.holding h t
      go true false false fresh new t = absurd (let bad : false ≡ true = t in cc)
      go true false true true new t = absurd (let bad : false ≡ true = t in cc)
      go true false true false new t = off f.fresh (sent new)

  -- ONE THAT CAME INTO HAND has a fragment to write
  some_left : (ms : List Body) → (ms ≡ [] → ⊥) → is_none_left ms ≡ false
  some_left [] n = absurd (n refl)
  some_left (m ∷ ms) n = refl

  begun_open : (q : Asked) (made : ℕ) (d : Side Body Asked Reply) → is_other q ≡ false → x.valid q ≡ true → is_free x d (Some (begun q made)) ≡ false
  begun_open q made d e v = ap (λ z. z && (if handed areas q && true then is_none d.halves.out.holding else false && not d.fresh)) (some_left (planned areas q []) (λ none. some_planned areas q v none))

  pub packet_begins : (q : Asked) (made : ℕ) (k : Side Body Asked Reply) → is_other q ≡ false → Newest x made q k → is_free x k k.now ≡ false
  packet_begins q made k e n = subst (λ (z : Side Body Asked Reply). is_free x z z.now ≡ false) (sym n.is) (go (next_mail x n.side.now n.side.halves.out.holding n.hold))
    where
      go : (ms : List Body) → is_free x (side_holds n.side ms) (side_holds n.side ms).now ≡ false
      go [] = ap (λ z. is_free x n.side z) n.now ∙ begun_open q made n.side e n.valid
      go (m ∷ ms) = ap (λ z. is_free x (side_holds n.side (m ∷ ms)) (option_map (λ r. row_told m r) z)) n.now ∙ held_open (side_holds n.side (m ∷ ms)) (row_told m (begun q made)) refl refl
