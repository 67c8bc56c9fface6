-- BEHIND A FRAME OF EITHER FATE one slave's desk is what its life has.
use Rattle.std.proofs.Common.{◌≡◌, ℕ, Bool, true, false, Option, Some, None, List, [], ◌++◌, refl, sym, ap, ◌∙◌, subst, append-nil}
use Rattle.std.specs.Prelude.{if◌then◌else◌, is_some, All}
use Rattle.std.proofs.lemmas.List.Elements.{All-filter, All-weaker}
use Rattle.run_record.proofs.of_served_places.Behind.{behind_stays, unpassed_behind}
use Rattle.run_record.specs.of_served_places.Rows.{AreAll, Stays, passed_rows, passings, told_besides}
use Rattle.run_record.specs.of_life_runs.Served.{Serves, ServedTurn, TellsSo, served_behind}
use Rattle.run_record.specs.of_life_runs.Told.{Passed, replies_in, told_on}
use Rattle.run_record.specs.of_master_node.Gateways.{done_told, life_told, replies_told}
use Rattle.run_record.specs.of_master_node.Named.{is_left}
use Rattle.run_record.specs.of_master_node.Serving.{serves_of}
use Rattle.run_record.specs.of_master_node.Wants.{gave_of}
use Rattle.run_record.specs.of_master_node.declared.event.Event.{Event}
use Rattle.run_record.specs.of_frame_view.Seen.{seen}
use Rattle.run_record.specs.of_frame_view.View.{Lens}
use Rattle.run_record.specs.of_frame_view.Shares.{AllBoth}
use Rattle.run_record.specs.of_life_model.Lives.{Stand}
use Rattle.run_record.specs.of_link_mails.Body.{Body}
use Rattle.run_record.specs.of_master_tour.Brings.{accepted_in}
use Rattle.run_record.specs.of_segment_model.Ends.{Passing}
use Rattle.run_record.specs.of_segment_ring.declared.wire.Fate.{Fate}
use Rattle.run_record.specs.of_segment_ring.declared.wire.Fate.TheVariants.{Pass}
use Rattle.run_record.specs.of_run_book.declared.book.GramIn.{GramIn}
use Rattle.gateway_run.specs.Account.{Owing, left_by_all}
use Rattle.gateway_run.specs.Desk.{AreApart}
use Rattle.gateway_run.specs.Rooms.{begun_of, owed_for, waiting_of}
use Rattle.gateway_run.specs.Replies.{Fares, IsDesk, IsFor, IsOurs, keyed_in}
use Rattle.gateway_run.specs.declared.desk.Request.{Request}
use Rattle.gateway_run.proofs.Behind.{ends, stays, in_hand, told_of}
use Rattle.gateway_run.proofs.Gives.{gives_told, over_same, owed_none_more}
use Rattle.gateway_run.proofs.Hands.{desk_same, fares_same, keyed_none}
use Rattle.gateway_run.proofs.Telling.{HasTold, IsBehind, OwesBesides, tells_nothing, tells_on, tells_over}

-- NO MAIL WAS PASSED ON LAST: nothing is told
module _ (gs : List GramIn) (slave : ℕ) (w v : Serves) (os more : List Owing) (came : List ℕ) (rs : List Request) (done done' : ℕ → Bool) where
  pub tells_none : w.hand ≡ None → v.hand ≡ None → v.waits ≡ w.waits → AllBoth Stays (passed_rows w.lead.lived.life) (passed_rows v.lead.lived.life) → gave_of v.lead ≡ gave_of w.lead → OwesBesides gs slave os more rs [] done done' →
      All (λ (r : Request). IsOurs gs slave r.gram) rs → IsDesk gs os slave w came (waiting_of slave rs) (begun_of slave rs) → HasTold gs slave w v os more came rs done done' [] rs
  tells_none none after same stay gave besides ours d = record {
    desk = record {
      waits = kept.waits;
      in_hand = kept.in_hand;
      its = kept.its;
      newest = λ p e. absurd (let bad : None ≡ Some p = sym after ∙ e in cc);
      new = λ k r less. same_owed _ (All-filter _ (λ (r : Request). IsOurs gs slave r.gram) rs ours k r less) ∙ kept.new k r less;
      many = kept.many;
      ours = kept.ours;
      rising = kept.rising;
      late = kept.late;
    };
    fares = λ number asked o request f.
        subst (λ z. Fares v came (waiting_of slave rs) (begun_of slave rs) z number o.gram.frame asked (owed_for number (os ++ more))) (sym (besides.ended number o))
        (subst (λ ms. Fares v came (waiting_of slave rs) (begun_of slave rs) (done number) number o.gram.frame asked ms) (sym (same_owed number o))
        (fares_same gs slave w v came (waiting_of slave rs) (begun_of slave rs) (done number) number o.gram.frame asked (owed_for number os) gave stay f));
    whole = λ heard over all.
        gives_told os done w v came (os ++ more) done' [] (owed_none_more os (os ++ more) came [] refl (All-weaker (IsOurs gs slave) (λ n. owed_for n (os ++ more) ≡ owed_for n os) same_owed came d.ours))
        (λ a. over_same done done' came (passings w.lead.lived.life) (passings v.lead.lived.life) (All-weaker (IsOurs gs slave) (λ n. done' n ≡ done n) besides.ended came d.ours) a over) heard all;
  }
    where
      kept : IsDesk gs os slave v came (waiting_of slave rs) (begun_of slave rs)
      kept = desk_same gs slave w v came (waiting_of slave rs) (begun_of slave rs) os same (ap (λ h. keyed_in h v.lead.lived.life.era.passing) after ∙ sym (ap (λ h. keyed_in h w.lead.lived.life.era.passing) none))
          (λ p e. absurd (let bad : None ≡ Some p = sym after ∙ e in cc)) stay d

      same_owed : (n : ℕ) → IsOurs gs slave n → owed_for n (os ++ more) ≡ owed_for n os
      same_owed n o = besides.owed n o ∙ append-nil (owed_for n os)

-- A FRAME THAT CAME BACK
module _ (lens : ℕ → Lens) (recover retry : ℕ) (gives : Bool) (made : ℕ) (sent back : List ℕ) (v : ServedTurn) (gs : List GramIn) (slave : ℕ) (os more : List Owing) (came : List ℕ) (rs : List Request) (done done' : ℕ → Bool) where
  -- the slave before it and behind it
  abbrev pub before : Serves
  before = serves_of v

  abbrev pub behind : Fate → Serves
  behind fate = served_behind lens recover retry gives made (record { sent = sent; fate = fate; back = back }) v

  -- the mails that its master accepted
  abbrev pub accepted : List Body
  accepted = accepted_in v.turn.lived.spot v.turn.lived.life (seen lens back)

  -- what that tells
  abbrev pub tells : List Event
  tells = life_told v.hand accepted v.turn.lived.life (behind Pass).lead.lived.life

  -- WHAT IS KNOWN OF THE SLAVE
  pub record IsKnown : Type 0 where
    pub opened : (p : Passed) → v.hand ≡ Some p → v.turn.lived.life.stand ≡ Stand.Open
    pub own : TellsSo (behind Pass)
    pub all : (p : Passed) → v.hand ≡ Some p → (x : Passing) → v.turn.lived.life.era.passing ≡ Some x → (behind Pass).lead.lived.life.era.passing ≡ None → AreAll (p.told ++ replies_in v.turn.lived.life.era.passing accepted)
    pub gave : gave_of (behind Pass).lead ≡ gave_of before.lead
    pub apart : AreApart rs
    pub besides : OwesBesides gs slave os more rs tells done done'
    pub ours : All (λ (r : Request). IsOurs gs slave r.gram) rs
    pub undone : All (λ (r : Request). done r.gram ≡ false) rs

  module _ (k : IsKnown) (d : IsDesk gs os slave before came (waiting_of slave rs) (begun_of slave rs)) where
    abbrev Told : List Body → List Request → Type 0
    Told told qs = HasTold gs slave before (behind Pass) os more came rs done done' told qs

    stay : AllBoth Stays (passed_rows v.turn.lived.life) (passed_rows (behind Pass).lead.lived.life)
    stay = behind_stays lens recover retry gives made (record { sent = sent; fate = Pass; back = back }) v

    abbrev new : List Body
    new = replies_in v.turn.lived.life.era.passing accepted

    -- where a mail was passed on last
    module _ (p : Passed) (e : v.hand ≡ Some p) where
      hand_is : (behind Pass).hand ≡ Some (record p { told = p.told ++ new })
      hand_is = ap (told_on v.turn.lived.life.era.passing accepted) e

      known : (es : List Event) → tells ≡ es → IsBehind gs slave before (behind Pass) os more came rs es done done' p new
      known es t = record {
        waits = refl;
        hand = e;
        behind = hand_is;
        stay = stay;
        gave = k.gave;
        own = k.own (record p { told = p.told ++ new }) hand_is;
        owes = subst (λ l. OwesBesides gs slave os more rs l done done') t k.besides;
        ours = k.ours;
        undone = k.undone;
      }

      tells_so : (q : Option Passing) → (behind Pass).lead.lived.life.era.passing ≡ q → (o : Option Passing) → v.turn.lived.life.era.passing ≡ o → tells ≡ replies_told p.key new ++ done_told p.key (is_some o) (is_some q)
      tells_so q f o g =
          ap (λ h. life_told h accepted v.turn.lived.life (behind Pass).lead.lived.life) e
          ∙ ap (λ s. if is_left s then [] else replies_told p.key new ++ done_told p.key (is_some v.turn.lived.life.era.passing) (is_some (behind Pass).lead.lived.life.era.passing)) (k.opened p e)
          ∙ (λ i. replies_told p.key new ++ done_told p.key (is_some (g i)) (is_some (f i)))

      by_passing : (o : Option Passing) → v.turn.lived.life.era.passing ≡ o → (q : Option Passing) → (behind Pass).lead.lived.life.era.passing ≡ q → Told new (left_by_all tells rs)
      by_passing None g q f =
          let none : new ≡ [] = ap (λ o. replies_in o accepted) g in
          let quiet : tells ≡ [] = tells_so q f None g ∙ ap (λ l. replies_told p.key l ++ []) none in
          let over = unpassed_behind lens recover retry gives made (record { sent = sent; fate = Pass; back = back }) v g in
          let keyed : AllBoth (IsFor gs) (begun_of slave rs) (keyed_in (behind Pass).hand (behind Pass).lead.lived.life.era.passing) =
          subst (AllBoth (IsFor gs) (begun_of slave rs)) (ap (keyed_in v.hand) g ∙ keyed_none v.hand ∙ sym (ap (keyed_in (behind Pass).hand) over ∙ keyed_none (behind Pass).hand)) d.in_hand in
          subst (Told new) (sym (ap (λ l. left_by_all l rs) quiet))
          (tells_nothing gs slave before (behind Pass) os more came rs [] done done' p new (known [] quiet) d false (λ n. refl) (λ n. refl) none keyed)
      by_passing (Some x) g (Some y) f =
          let t = tells_so (Some y) f (Some x) g in
          let i = in_hand gs slave before (behind Pass) os more came rs p new e x g d in
          subst (Told new) (sym (ap (λ l. left_by_all l rs) t ∙ stays gs slave before (behind Pass) os more came rs p new k.apart i))
          (tells_on gs slave before (behind Pass) os more came rs (told_of gs slave before (behind Pass) os more came rs p new true true) done done' p new (known _ t) d k.apart x g y f refl)
      by_passing (Some x) g None f =
          let t = tells_so None f (Some x) g in
          let i = in_hand gs slave before (behind Pass) os more came rs p new e x g d in
          subst (Told new) (sym (ap (λ l. left_by_all l rs) t ∙ ends gs slave before (behind Pass) os more came rs p new k.apart i))
          (tells_over gs slave before (behind Pass) os more came rs (told_of gs slave before (behind Pass) os more came rs p new true false) done done' p new (known _ t) d k.apart x g f (k.all p e x g f) refl)

    by_hand : (h : Option Passed) → v.hand ≡ h → Told (told_besides h v.turn.lived.life.era.passing accepted) (left_by_all tells rs)
    by_hand None e =
        let quiet : tells ≡ [] = ap (λ h. life_told h accepted v.turn.lived.life (behind Pass).lead.lived.life) e in
        subst (Told []) (sym (ap (λ l. left_by_all l rs) quiet))
        (tells_none gs slave before (behind Pass) os more came rs done done' e (ap (told_on v.turn.lived.life.era.passing accepted) e) refl stay k.gave (subst (λ l. OwesBesides gs slave os more rs l done done') quiet k.besides) k.ours d)
    by_hand (Some p) e = by_passing p e v.turn.lived.life.era.passing refl (behind Pass).lead.lived.life.era.passing refl

    pub slave_back : Told (told_besides v.hand v.turn.lived.life.era.passing accepted) (left_by_all tells rs)
    slave_back = by_hand v.hand refl
