-- BEHIND A LOST FRAME one slave's desk is what its life has: nothing is told, or the slave was given up.
use Rattle.std.proofs.Common.{◌≡◌, ◌≤◌, ℕ, suc, Bool, true, false, Option, Some, None, List, [], ◌∷◌, ◌++◌, map, refl, sym, ap, ◌∙◌, subst, append-nil}
use Rattle.std.specs.Prelude.{if◌then◌else◌, slice_index_or, All}
use Rattle.std.proofs.lemmas.List.Elements.{All-weaker}
use Rattle.run_record.proofs.of_served_places.Behind.{Goes, behind_stays, lost_goes, unpassed_behind}
use Rattle.run_record.proofs.of_served_places.Hears.{told_none}
use Rattle.run_record.specs.of_served_places.Rows.{Stays, passed_rows, passings, told_besides}
use Rattle.run_record.specs.of_life_runs.Served.{Serves, ServedTurn, TellsSo, gives_it, served_behind}
use Rattle.run_record.specs.of_life_runs.Told.{Passed, replies_in, told_on}
use Rattle.gateway_core.specs.of_mailbox_mail.Mail.{error_of}
use Rattle.run_record.specs.of_master_node.Serving.{serves_of}
use Rattle.run_record.specs.of_master_node.Wants.{gave_of}
use Rattle.run_record.specs.of_master_node.declared.event.Event.{Event}
use Rattle.run_record.specs.of_master_node.declared.event.Event.TheVariants as events
use Rattle.run_record.specs.of_frame_view.View.{Lens}
use Rattle.run_record.specs.of_frame_view.Shares.{AllBoth}
use Rattle.run_record.specs.of_life_model.Lives.{Stand}
use Rattle.run_record.specs.of_link_mails.Body.{Body}
use Rattle.run_record.specs.of_master_tour.Made.{is_in}
use Rattle.run_record.specs.of_segment_model.Ends.{Passing}
use Rattle.run_record.specs.of_segment_ring.declared.wire.Fate.TheVariants.{Lost}
use Rattle.run_record.specs.of_run_book.declared.book.GramIn.{GramIn}
use Rattle.gateway_run.specs.Account.{Owing, elsewhere, left_by_all, owing}
use Rattle.gateway_run.specs.Rooms.{AreFiled, begun_of, grams_of, owed_for, waiting_of}
use Rattle.gateway_run.specs.Replies.{Fares, IsDesk, IsFor, IsOurs, keyed_in}
use Rattle.gateway_run.specs.declared.desk.Request.{Request}
use Rattle.gateway_run.proofs.Befores.{AreBegun}
use Rattle.gateway_run.proofs.Desking.{cut_among, gone_begun, gone_waits, none_in}
use Rattle.gateway_run.proofs.Views.{cut_none}
use Rattle.gateway_run.proofs.Frames.{tells_none}
use Rattle.gateway_run.proofs.Given.{desk_gone, fares_gone}
use Rattle.gateway_run.proofs.Gives.{each_among, gives_told, over_same, owed_none_more}
use Rattle.gateway_run.proofs.Hands.{all_got, keyed_none, rises_apart}
use Rattle.gateway_run.proofs.Telling.{HasTold, IsBehind, OwesBesides, tells_nothing}

module _ (lens : ℕ → Lens) (recover retry : ℕ) (gives : Bool) (made after : ℕ) (sent back : List ℕ) (v : ServedTurn) (gs : List GramIn) (slave : ℕ) (os more : List Owing) (came : List ℕ) (rs : List Request) (done done' : ℕ → Bool) where
  -- the slave behind it
  abbrev pub lost : Serves
  lost = served_behind lens recover retry gives made (record { sent = sent; fate = Lost after; back = back }) v

  -- by this it was given up
  abbrev pub given : Bool
  given = gives_it lens recover retry gives (Lost after) v

  -- what that tells
  abbrev pub tells_lost : Bool → List Event
  tells_lost true = events.GivenUp slave ∷ []
  tells_lost false = []

  -- WHAT IS KNOWN OF THE SLAVE
  pub record IsKnownLost : Type 0 where
    pub opened : (p : Passed) → v.hand ≡ Some p → v.turn.lived.life.stand ≡ Stand.Open
    pub own : TellsSo lost
    pub spared : given ≡ false → gave_of lost.lead ≡ gave_of (serves_of v).lead
    pub given_up : given ≡ true → gave_of lost.lead ≡ gave_of (serves_of v).lead ++ made ∷ []
    pub early : All (λ (g : GramIn). g.frame ≤ made) gs
    pub rows : AreBegun (suc made) (passed_rows v.turn.lived.life)
    pub filed : AreFiled (waiting_of slave rs)
    pub besides : OwesBesides gs slave os more rs (tells_lost given) done done'
    pub ours : All (λ (r : Request). IsOurs gs slave r.gram) rs
    pub undone : All (λ (r : Request). done r.gram ≡ false) rs

  module _ (k : IsKnownLost) (d : IsDesk gs os slave (serves_of v) came (waiting_of slave rs) (begun_of slave rs)) where
    abbrev Told : List Body → List Request → Type 0
    Told told qs = HasTold gs slave (serves_of v) lost os more came rs done done' told qs

    stay : AllBoth Stays (passed_rows v.turn.lived.life) (passed_rows lost.lead.lived.life)
    stay = behind_stays lens recover retry gives made (record { sent = sent; fate = Lost after; back = back }) v

    -- IT IS GIVEN UP
    is_given : given ≡ true → Told [] (elsewhere slave rs)
    is_given g = record {
      desk = subst (λ bs. IsDesk gs (os ++ more) slave lost came (waiting_of slave (elsewhere slave rs)) bs) (sym (gone_begun slave rs)) (subst (λ ws. IsDesk gs (os ++ more) slave lost came ws []) (sym (gone_waits slave rs))
          (desk_gone gs slave (serves_of v) lost came (waiting_of slave rs) (begun_of slave rs) os more (ap (λ z. if z then [] else v.waits) g) (ap (λ z. if z then None else told_on v.turn.lived.life.era.passing [] v.hand) g) stay d));
      fares = λ number asked o request f.
          subst (λ z. Fares lost came (waiting_of slave (elsewhere slave rs)) (begun_of slave (elsewhere slave rs)) z number o.gram.frame asked (owed_for number (os ++ more))) (sym (besides.ended number o))
          (subst (λ bs. Fares lost came (waiting_of slave (elsewhere slave rs)) bs (done number) number o.gram.frame asked (owed_for number (os ++ more))) (sym (gone_begun slave rs)) (subst (λ ws. Fares lost came ws [] (done number) number o.gram.frame asked (owed_for number (os ++ more))) (sym (gone_waits slave rs))
          (fares_gone gs slave (serves_of v) lost came (waiting_of slave rs) (begun_of slave rs) os more made (done number) number o.gram.frame asked (owed_for number os) (owed_for number (os ++ more)) (k.given_up g)
          (all_got (λ (g : GramIn). g.frame ≤ made) gs number o.gram k.early o.there) k.rows stay d
          (λ e. besides.owed number o ∙ ap (λ ms. owed_for number os ++ ms) (ap (owed_for number) (append-nil (map (owing (error_of 5)) (waiting_of slave rs))) ∙ cut_among number (waiting_of slave rs) k.filed e))
          (λ e. besides.owed number o ∙ ap (λ ms. owed_for number os ++ ms) (ap (owed_for number) (append-nil (map (owing (error_of 5)) (waiting_of slave rs))) ∙ cut_none number (waiting_of slave rs) (none_in number (waiting_of slave rs) e)) ∙ append-nil (owed_for number os))
          f)));
      whole = λ heard over all.
          gives_told os done (serves_of v) lost came (os ++ more) done' []
          (owed_none_more os (os ++ more) came [] refl (λ i n less. not_cut (slice_index_or came i n) (d.ours i n less) (each_among came i n less)))
          (λ a. over_same done done' came (passings v.turn.lived.life) (passings lost.lead.lived.life) (All-weaker (IsOurs gs slave) (λ n. done' n ≡ done n) besides.ended came d.ours) a over) heard all;
    }
      where
        besides : OwesBesides gs slave os more rs (events.GivenUp slave ∷ []) done done'
        besides = subst (λ z. OwesBesides gs slave os more rs (tells_lost z) done done') g k.besides

        -- of one whose mail came into hand none is dropped
        not_cut : (n : ℕ) → IsOurs gs slave n → is_in n came ≡ true → owed_for n (os ++ more) ≡ owed_for n os
        not_cut n o e =
            besides.owed n o
            ∙ ap (λ ms. owed_for n os ++ ms)
            (ap (owed_for n) (append-nil (map (owing (error_of 5)) (waiting_of slave rs))) ∙ cut_none n (waiting_of slave rs) (none_in n (waiting_of slave rs) (rises_apart n came (grams_of (waiting_of slave rs)) d.rising e)))
            ∙ append-nil (owed_for n os)

    -- IT ISN'T
    module _ (g : given ≡ false) where
      besides : OwesBesides gs slave os more rs [] done done'
      besides = subst (λ z. OwesBesides gs slave os more rs (tells_lost z) done done') g k.besides

      waits_is : lost.waits ≡ v.waits
      waits_is = ap (λ z. if z then [] else v.waits) g

      hand_is : (h : Option Passed) → v.hand ≡ h → lost.hand ≡ told_on v.turn.lived.life.era.passing [] h
      hand_is h e = ap (λ z. if z then None else told_on v.turn.lived.life.era.passing [] v.hand) g ∙ ap (told_on v.turn.lived.life.era.passing []) e

      by_none : v.hand ≡ None → Told [] rs
      by_none e = tells_none gs slave (serves_of v) lost os more came rs done done' e (hand_is None e) waits_is stay (k.spared g) besides k.ours d

      nothing : (o : Option Passing) → replies_in o [] ≡ []
      nothing None = refl
      nothing (Some x) = refl

      by_some : (p : Passed) → v.hand ≡ Some p → Told (replies_in v.turn.lived.life.era.passing []) rs
      by_some p e = tells_nothing gs slave (serves_of v) lost os more came rs [] done done' p new known d false (λ n. refl) (λ n. refl) (nothing v.turn.lived.life.era.passing) (keyed v.turn.lived.life.era.passing refl)
        where
          new : List Body
          new = replies_in v.turn.lived.life.era.passing []

          behind : lost.hand ≡ Some (record p { told = p.told ++ new })
          behind = hand_is (Some p) e

          known : IsBehind gs slave (serves_of v) lost os more came rs [] done done' p new
          known = record {
            waits = waits_is;
            hand = e;
            behind = behind;
            stay = stay;
            gave = k.spared g;
            own = k.own (record p { told = p.told ++ new }) behind;
            owes = besides;
            ours = k.ours;
            undone = k.undone;
          }

          -- an open slave's mail goes on
          goes : Goes v.turn.lived.life.era.passing → Goes lost.lead.lived.life.era.passing
          goes o = lost_goes lens recover retry gives made (record { sent = sent; fate = Lost after; back = back }) v after g (k.opened p e) o

          keyed : (o : Option Passing) → v.turn.lived.life.era.passing ≡ o → AllBoth (IsFor gs) (begun_of slave rs) (keyed_in lost.hand lost.lead.lived.life.era.passing)
          keyed None f =
              let over = unpassed_behind lens recover retry gives made (record { sent = sent; fate = Lost after; back = back }) v f in
              subst (AllBoth (IsFor gs) (begun_of slave rs)) (ap (keyed_in v.hand) f ∙ keyed_none v.hand ∙ sym (ap (keyed_in lost.hand) over ∙ keyed_none lost.hand)) d.in_hand
          keyed (Some y) f =
              let on = goes (record { passing = y; is = f }) in
              subst (AllBoth (IsFor gs) (begun_of slave rs)) ((λ i. keyed_in (e i) (f i)) ∙ sym (λ i. keyed_in (behind i) (on.is i))) d.in_hand

      not_given : Told (told_besides v.hand v.turn.lived.life.era.passing []) rs
      not_given = go v.hand refl
        where
          go : (h : Option Passed) → v.hand ≡ h → Told (told_besides h v.turn.lived.life.era.passing []) rs
          go None e = by_none e
          go (Some p) e = by_some p e

    pub slave_lost : Told (told_besides v.hand v.turn.lived.life.era.passing []) (left_by_all (tells_lost given) rs)
    slave_lost = go given refl
      where
        go : (z : Bool) → given ≡ z → Told (told_besides v.hand v.turn.lived.life.era.passing []) (left_by_all (tells_lost z) rs)
        go true g = subst (λ told. Told told (elsewhere slave rs)) (sym (told_none v.hand v.turn.lived.life.era.passing)) (is_given g)
        go false g = not_given g
