-- A RING is switched on, and its slaves are given up.
use Rattle.std.proofs.Common.{◌≡◌, ℕ, suc, ◌<◌, Bool, true, false, List, [], ◌∷◌, ◌++◌, map, length, refl, ap, sym, ◌∙◌, subst}
use Rattle.std.specs.Prelude.{if◌then◌else◌}
use Rattle.std.proofs.lemmas.List.{length-replicate}
use Rattle.slave_lives.specs.of_frame_view.View.{Lens}
use Rattle.slave_lives.specs.of_link_mails.Body.{Body}
use Rattle.slave_lives.specs.of_mailbox_slave.Registers.{in_len}
use Rattle.slave_lives.specs.of_segment_model.Record.{Frame}
use Rattle.slave_lives.specs.of_segment_ring.Ring.{RingState}
use Rattle.slave_lives.specs.of_slave_node.Node.{Node}
use Rattle.slave_lives.specs.of_life_model.Lives.{Spot, Life, new_life, gives_up}
use Rattle.whole_ring.specs.Whole.{IsLived}
use Rattle.whole_ring.proofs.WholeTurning.{begins, given_up}
use Rattle.whole_ring.specs.Members.{Member, IsElsewhere, AreDistinct, MemberIs, AllLived, IsRing, IsNew, AllNew, first_ring, HandBoots}
use Rattle.whole_ring.specs.Turning as Turning

module _ {S V A Q R : Type 0} (lens : ℕ → Lens) (step : Node S → Node S) (fits : Spot → S → Type 0) where
  new_member : (place : ℕ) (m : Member S V A Q R) → IsNew lens step fits place m → MemberIs lens step fits [] place m
  new_member place m x = record {
    whole = x.whole;
    lived = subst (λ (a : A). IsLived m.services m.clearing m.plan m.spot a m.life [] m.node) (sym x.first)
        (subst (λ (l : Life Body Q R). IsLived m.services m.clearing m.plan m.spot (m.services.exchange.app (m.services.sees x.al x.server).server) l [] m.node) (sym x.life)
        (subst (λ (n : Node S). IsLived m.services m.clearing m.plan m.spot (m.services.exchange.app (m.services.sees x.al x.server).server) (new_life {M = Body} {Q = Q} {R = R} m.spot.start) [] n) (sym x.node)
        (begins m.services m.clearing m.plan m.spot x.whole x.al x.server x.cleared x.quiet)));
    at = x.at;
    lens_is = x.lens_is;
    named = x.named;
    serves = x.serves;
    server = subst (λ (n : Node S). fits m.spot n.server) (sym x.node) x.fits_is;
    room = ap (λ (n : Node S). in_len n.registers) x.node ∙ length-replicate m.plan.back 0;
    boots = subst (λ (l : Life Body Q R). HandBoots m.services.boot l.era.account.hand) (sym x.life) tt;
  }

  all_new : (place : ℕ) (ms : List (Member S V A Q R)) → AllNew lens step fits place ms → AllLived lens step fits [] place ms
  all_new place [] new = tt
  all_new place (m ∷ ms) new = (new_member place m new.0, all_new (suc place) ms new.1)

  -- SWITCHED ON
  pub ring_begins : (lose : List (ℕ × ℕ)) (ms : List (Member S V A Q R)) → length ms < 17 → AreDistinct ms → AllNew lens step fits 0 ms → IsRing lens step fits [] (first_ring lose ms) ms
  ring_begins lose ms few distinct new = record { few = few; nodes = refl; paces = refl; number = refl; distinct = distinct; each = all_new 0 ms new }

  -- one of them
  pub member_at : (fs : List (Frame Body)) (place : ℕ) (bs : List (Member S V A Q R)) (m : Member S V A Q R) (cs : List (Member S V A Q R)) → AllLived lens step fits fs place (bs ++ m ∷ cs) → MemberIs lens step fits fs m.spot.place m
  member_at fs place [] m cs all = let i = all.0 in record { whole = i.whole; lived = i.lived; at = refl; lens_is = i.lens_is; named = i.named; serves = i.serves; server = i.server; room = i.room; boots = i.boots }
  member_at fs place (b ∷ bs) m cs all = member_at fs (suc place) bs m cs all.1

  -- GIVEN UP
  module _ (fs : List (Frame Body)) (recover frame : ℕ) where
    given : (place : ℕ) (m : Member S V A Q R) (b : Bool) → MemberIs lens step fits fs place m → MemberIs lens step fits fs place (if b then record m { life = gives_up recover m.spot frame m.life } else m)
    given place m false i = i
    given place m true i = record {
      whole = i.whole;
      lived = given_up m.services m.clearing m.plan m.spot i.whole m.first m.life fs m.node recover frame i.lived;
      at = i.at;
      lens_is = i.lens_is;
      named = i.named;
      serves = i.serves;
      server = i.server;
      room = i.room;
      boots = i.boots;
    }

    all_given : (place : ℕ) (ms : List (Member S V A Q R)) (bs : List Bool) → AllLived lens step fits fs place ms → AllLived lens step fits fs place (Turning.given_up recover frame ms bs)
    all_given place [] bs all = all
    all_given place (m ∷ ms) [] all = all
    all_given place (m ∷ ms) (b ∷ bs) all = (given place m b all.0, all_given (suc place) ms bs all.1)

    same_of : {X : Type 0} (g : Member S V A Q R → X) → ((m : Member S V A Q R) (l : Life Body Q R) → g (record m { life = l }) ≡ g m) → (ms : List (Member S V A Q R)) (bs : List Bool) → map g ms ≡ map g (Turning.given_up recover frame ms bs)
    same_of g same [] bs = refl
    same_of g same (m ∷ ms) [] = refl
    same_of g same (m ∷ ms) (b ∷ bs) = (λ i. go b i ∷ same_of g same ms bs i)
      where
        go : (c : Bool) → g m ≡ g (if c then record m { life = gives_up recover m.spot frame m.life } else m)
        go true = sym (same m (gives_up recover m.spot frame m.life))
        go false = refl

    many_given : (ms : List (Member S V A Q R)) (bs : List Bool) → length (Turning.given_up recover frame ms bs) ≡ length ms
    many_given [] bs = refl
    many_given (m ∷ ms) [] = refl
    many_given (m ∷ ms) (b ∷ bs) = ap suc (many_given ms bs)

    elsewhere_given : (station : ℕ) (ms : List (Member S V A Q R)) (bs : List Bool) → IsElsewhere station ms → IsElsewhere station (Turning.given_up recover frame ms bs)
    elsewhere_given station [] bs other = other
    elsewhere_given station (m ∷ ms) [] other = other
    elsewhere_given station (m ∷ ms) (true ∷ bs) other = (other.0, elsewhere_given station ms bs other.1)
    elsewhere_given station (m ∷ ms) (false ∷ bs) other = (other.0, elsewhere_given station ms bs other.1)

    distinct_given : (ms : List (Member S V A Q R)) (bs : List Bool) → AreDistinct ms → AreDistinct (Turning.given_up recover frame ms bs)
    distinct_given [] bs distinct = distinct
    distinct_given (m ∷ ms) [] distinct = distinct
    distinct_given (m ∷ ms) (true ∷ bs) distinct = (elsewhere_given m.plan.station ms bs distinct.0, distinct_given ms bs distinct.1)
    distinct_given (m ∷ ms) (false ∷ bs) distinct = (elsewhere_given m.plan.station ms bs distinct.0, distinct_given ms bs distinct.1)

    pub ring_given : (ring : RingState (Node S)) (ms : List (Member S V A Q R)) (bs : List Bool) → IsRing lens step fits fs ring ms → IsRing lens step fits fs ring (Turning.given_up recover frame ms bs)
    ring_given ring ms bs r = record {
      few = subst (λ (k : ℕ). k < 17) (sym (many_given ms bs)) r.few;
      nodes = r.nodes ∙ same_of (λ (m : Member S V A Q R). m.node) (λ m l. refl) ms bs;
      paces = r.paces ∙ same_of (λ (m : Member S V A Q R). m.pace) (λ m l. refl) ms bs;
      number = r.number;
      distinct = distinct_given ms bs r.distinct;
      each = all_given 0 ms bs r.each;
    }
