-- WHAT A FRAME TELLS OF THE SLAVE AT A PLACE: of answers just those that its own life tells.
use Rattle.std.proofs.Common.{◌≡◌, ◌==◌, ℕ, zero, suc, Bool, true, false, Option, Some, None, List, [], ◌∷◌, ◌++◌, length, map, refl, sym, ap, ◌∙◌, subst, append-nil}
use Rattle.std.specs.Prelude.{◌&&◌, is_some, if◌then◌else◌, slice_get}
use Rattle.std.proofs.lemmas.Bool.{eq-eqb, eqb-true}
use Rattle.plan_ring.specs.of_mailbox_mail.declared.outcome.ReplyKind.{ReplyKind}
use Rattle.packets_heard.specs.of_master_node.Backtold.{answer_told, change_kind, changes_told, emergencies_told, ended_told, has_packet, kind_of, over_told, packet_told, passed_told, returned_told, turned_told}
use Rattle.packets_heard.specs.of_master_node.Besides.{given_told}
use Rattle.packets_heard.specs.of_master_node.Gateways.{replies_told}
use Rattle.packets_heard.specs.of_master_node.Lifetold.{lost_at, lost_told, told_at}
use Rattle.packets_heard.specs.of_master_node.Listing.{told_in}
use Rattle.packets_heard.specs.of_master_node.declared.event.Event.{Event}
use Rattle.served_places.specs.of_exchange_model.Exchange.{Speech}
use Rattle.served_places.specs.of_life_model.Lives.{Life, Stand}
use Rattle.served_places.specs.of_link_mails.Body.{Body}
use Rattle.served_places.specs.of_master_duty.Reply.{Reply}
use Rattle.served_places.specs.of_master_hand.Brings.{emergencies_in}
use Rattle.served_places.specs.of_master_hand.Spoken.{Asked}
use Rattle.served_places.specs.of_master_tour.Made.{is_in}
use Rattle.served_places.specs.of_master_tour.Orders.{AreOnce}
use Rattle.served_places.specs.of_master_tour.Stands.{turned}
use Rattle.served_places.specs.of_master_tour.declared.stop.Turned.{Turned}
use Rattle.served_places.specs.of_segment_model.Ends.{Passing}
use Rattle.served_places.specs.of_state_model.Accounts.{Change, is_free}
use Rattle.run_notes.specs.Handed.{kinds_in}
use Rattle.run_notes.proofs.Handings.{kinds_append}
use Rattle.run_record.proofs.MailLives.{emergency_kinds, five_kinds, reply_kinds}
use Rattle.served_places.specs.of_life_runs.Served.{Serves, ServedTurn}
use Rattle.served_places.specs.of_life_runs.Told.{Passed, replies_in}

-- ---- of another slave

module _ (k p : ℕ) (off : (p == k) ≡ false) where
  one_off : (kind : ReplyKind) (es : List Event) → kinds_in k es ≡ [] → kinds_in k (Event.Answered p kind ∷ es) ≡ []
  one_off kind es e = λ i. (if off i then kind ∷ [] else []) ++ e i

  ended_off : (key : ℕ) (a b : Bool) → kinds_in k (ended_told p key a b) ≡ []
  ended_off key true false = one_off ReplyKind.Handed (Event.GatewayDone key ∷ []) refl
  ended_off key true true = refl
  ended_off key false b = refl

  passed_off : (hand : Option Passed) (old new : Option Passing) (ms : List Body) → kinds_in k (passed_told p hand old new ms) ≡ []
  passed_off None old new ms = refl
  passed_off (Some q) old new ms =
      kinds_append k (replies_told q.key (replies_in old ms)) (ended_told p q.key (is_some old) (is_some new)) ∙ (λ i. reply_kinds k q.key (replies_in old ms) i ++ ended_off q.key (is_some old) (is_some new) i)

  answer_off : (a b : Option ReplyKind) → kinds_in k (answer_told p a b) ≡ []
  answer_off None (Some kind) = one_off kind [] refl
  answer_off None None = refl
  answer_off (Some a) b = refl

  over_off : (a b : Bool) → kinds_in k (over_told p a b) ≡ []
  over_off false true = one_off ReplyKind.Handed [] refl
  over_off false false = refl
  over_off true b = refl

  packet_off : (a knows was is : Bool) → kinds_in k (packet_told p a knows was is) ≡ []
  packet_off false knows was is = refl
  packet_off true knows was is = over_off was (knows && is)

  changes_off : (n : ℕ) (cs : List (Change Reply)) → kinds_in k (changes_told p n cs) ≡ []
  changes_off n [] = refl
  changes_off zero (c ∷ cs) = one_off (change_kind c.answer) (changes_told p zero cs) (changes_off zero cs)
  changes_off (suc n) (c ∷ cs) = changes_off n cs

  turned_off : (own : Bool) (o : Option Turned) → kinds_in k (turned_told p own o) ≡ []
  turned_off own None = refl
  turned_off own (Some Turned.GivenUp) = refl
  turned_off own (Some Turned.Cleared) = refl
  turned_off true (Some Turned.Opened) = one_off ReplyKind.Done [] refl
  turned_off false (Some Turned.Opened) = refl

  pub returned_off : (x : Speech Body Asked Reply) (knows : Bool) (hand : Option Passed) (ms : List Body) (l m : Life Body Asked Reply) (stand : Stand) → kinds_in k (returned_told x knows p hand ms l m stand) ≡ []
  returned_off x knows hand ms l m (Stand.Opens o) = turned_off o.own (turned l m)
  returned_off x knows hand ms l m Stand.Gone = refl
  returned_off x knows hand ms l m Stand.Open =
      let was = is_free x l.era.side l.era.side.now in
      let is = is_free x m.era.side m.era.side.now in
      five_kinds k (emergencies_told p (emergencies_in ms)) (passed_told p hand l.era.passing m.era.passing ms) (answer_told p (kind_of l.era.side.now) (kind_of m.era.side.now)) (packet_told p (has_packet l.era.side.now) knows was is)
      (changes_told p (length l.era.account.over) m.era.account.over) (emergency_kinds k p (emergencies_in ms))
      ∙ (λ i. passed_off hand l.era.passing m.era.passing ms i ++ answer_off (kind_of l.era.side.now) (kind_of m.era.side.now) i ++ packet_off (has_packet l.era.side.now) knows was is i ++ changes_off (length l.era.account.over) m.era.account.over i)

-- that a slave was given up is no answer
lost_none : (k p : ℕ) (news : Option Turned) → kinds_in k (given_told p news) ≡ []
lost_none k p None = refl
lost_none k p (Some Turned.GivenUp) = refl
lost_none k p (Some Turned.Cleared) = refl
lost_none k p (Some Turned.Opened) = refl

-- ---- by all lives

pub told_none : (k : ℕ) (tells : ServedTurn → Serves → List Event) → ((v : ServedTurn) (w : Serves) → kinds_in k (tells v w) ≡ []) → (vs : List ServedTurn) (ws : List Serves) (p : ℕ) → kinds_in k (told_at tells vs ws p) ≡ []
told_none k tells h [] ws p = refl
told_none k tells h (v ∷ vs) [] p = refl
told_none k tells h (v ∷ vs) (w ∷ ws) zero = h v w
told_none k tells h (v ∷ vs) (w ∷ ws) (suc p) = told_none k tells h vs ws p

pub losts_none : (k : ℕ) (vs : List ServedTurn) (ws : List Serves) (p : ℕ) → kinds_in k (lost_at vs ws p) ≡ []
losts_none k vs ws p = told_none k (λ v w. lost_told p v.turn.lived.life w.lead.lived.life) (λ v w. lost_none k p (turned v.turn.lived.life w.lead.lived.life)) vs ws p

pub told_here : (tells : ServedTurn → Serves → List Event) (g : ServedTurn → Serves) (vs : List ServedTurn) (k : ℕ) (v : ServedTurn) → slice_get vs k ≡ Some v → told_at tells vs (map g vs) k ≡ tells v (g v)
told_here tells g [] k v e = absurd (let bad : None ≡ Some v = e in cc)
told_here tells g (u ∷ vs) zero v e = ap (λ z. tells z (g z)) (let same : u ≡ v = cc in same)
told_here tells g (u ∷ vs) (suc k) v e = told_here tells g vs k v e

-- ---- of all slaves visited, each once

pub in_kinds : (k : ℕ) (tells : ℕ → List Event) → ((p : ℕ) → (p == k) ≡ false → kinds_in k (tells p) ≡ []) → (ps : List ℕ) → AreOnce ps → kinds_in k (told_in tells ps) ≡ (if is_in k ps then kinds_in k (tells k) else [])
in_kinds k tells h [] o = refl
in_kinds k tells h (p ∷ ps) o = kinds_append k (tells p) (told_in tells ps) ∙ ap (λ z. kinds_in k (tells p) ++ z) (in_kinds k tells h ps o.1) ∙ go (k == p) refl
  where
    go : (z : Bool) → (k == p) ≡ z → kinds_in k (tells p) ++ (if is_in k ps then kinds_in k (tells k) else []) ≡ (if (if k == p then true else is_in k ps) then kinds_in k (tells k) else [])
    go true f =
        let q : k ≡ p = eqb-true k p f in
        let out : is_in k ps ≡ false = subst (λ j. is_in j ps ≡ false) (sym q) o.0 in
        (λ i. kinds_in k (tells (sym q i)) ++ (if out i then kinds_in k (tells k) else []))
        ∙ append-nil (kinds_in k (tells k)) ∙ ap (λ (z : Bool). if (if z then true else is_in k ps) then kinds_in k (tells k) else []) (sym f)
    go false f =
        ap (λ z. z ++ (if is_in k ps then kinds_in k (tells k) else [])) (h p (away (p == k) refl))
        ∙ ap (λ (z : Bool). if (if z then true else is_in k ps) then kinds_in k (tells k) else []) (sym f)
      where
        away : (z : Bool) → (p == k) ≡ z → (p == k) ≡ false
        away true e = absurd (let w = eq-eqb k p (sym (eqb-true p k e)) in let bad : true ≡ false = sym w ∙ f in cc)
        away false e = e
