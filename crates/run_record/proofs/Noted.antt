-- WHAT IS NOTED OF GIVE-UPS over a frame is what the lives behind it have.
use Rattle.std.proofs.Common.{◌≡◌, ◌++◌, ℕ, Bool, true, false, List, [], ◌∷◌, map, length, length-append, refl, sym, ap, ◌∙◌, subst, arith}
use Rattle.std.specs.Prelude.{◌&&◌, nat_lt, if◌then◌else◌}
use Rattle.std.proofs.lemmas.Bool.{lt-ltb, le-ltb}
use Rattle.packets_heard.proofs.of_master_node.Counts.{back_gave, lost_gave, next_gave}
use Rattle.packets_heard.specs.of_master_node.Shows.{lived_of}
use Rattle.packets_heard.specs.of_master_node.Told.{HasLives}
use Rattle.packets_heard.specs.of_master_node.Wants.{AllCounted, gave_of}
use Rattle.packets_heard.specs.of_master_node.declared.node.MasterNode.{MasterNode}
use Rattle.plan_ring.specs.of_frame_view.Seen.{seen}
use Rattle.plan_ring.specs.of_frame_view.View.{Lens}
use Rattle.served_places.specs.of_segment_model.Record.{News}
use Rattle.plan_ring.specs.of_frame_view.Frames.{Share}
use Rattle.plan_ring.specs.of_frame_view.Shares.{AllBoth, IsNext, Lived, came_at, given_where, lived_back, lived_lost}
use Rattle.served_places.specs.of_life_model.Lives.{Life, life_lost}
use Rattle.served_places.specs.of_life_runs.Led.{Exchanged, Leads, speech_at}
use Rattle.served_places.specs.of_master_duty.Reply.{Reply}
use Rattle.served_places.specs.of_master_hand.Spoken.{Asked, acknowledged, is_followed, is_passed}
use Rattle.run_notes.proofs.Gaves.{with_more}
use Rattle.run_notes.specs.Slaves.{GaveBy, gaves_behind, gaves_noted}
use Rattle.run_notes.specs.declared.standing.Log.{Log}
use Rattle.served_places.specs.of_segment_ring.declared.wire.Fate.{Fate}
use Rattle.served_places.specs.of_segment_ring.declared.wire.Fate.TheVariants as Fates
use Rattle.served_places.specs.of_link_mails.Body.{Body}

-- behind a frame of this fate, by the give-ups of the lives behind it
abbrev pub NotedBy : Fate → ℕ → List (List ℕ) → List (List ℕ) → List (List ℕ) → Type 0
NotedBy Fates.Pass frame old new nows = new ≡ old
NotedBy (Fates.Lost after) frame old new nows = new ≡ gaves_behind frame nows old

-- what a log notes, where its master has these lives
pub noted_by : (fate : Fate) (frame : ℕ) (m : MasterNode) (r r' : Log) (lens : ℕ → Lens) (leads : List Leads) → GaveBy fate frame m r r' → HasLives lens r.recover m (map lived_of leads) → AllCounted r.recover leads → NotedBy fate frame (gaves_noted r.notes) (gaves_noted r'.notes) (map gave_of leads)
noted_by Fates.Pass frame m r r' lens leads g lives all = g
noted_by (Fates.Lost after) frame m r r' lens leads g lives all = g lens leads lives all

-- ONE LIFE OVER A FRAME of this fate: it has no give-up more, or where the frame was lost at most this
abbrev pub GivesOne : Fate → ℕ → List ℕ → List ℕ → Type 0
GivesOne Fates.Pass frame old now = now ≡ old
GivesOne (Fates.Lost after) frame old now = with_more frame now old ≡ now

-- ALL OF THEM: just that is noted
all_same : (frame : ℕ) (olds nows : List (List ℕ)) → AllBoth (λ o n. GivesOne Fates.Pass frame o n) olds nows → nows ≡ olds
all_same frame [] [] h = refl
all_same frame [] (n ∷ nows) h = absurd h
all_same frame (o ∷ olds) [] h = absurd h
all_same frame (o ∷ olds) (n ∷ nows) h = λ i. h.0 i ∷ all_same frame olds nows h.1 i

all_more : (after frame : ℕ) (olds nows : List (List ℕ)) → AllBoth (λ o n. GivesOne (Fates.Lost after) frame o n) olds nows → gaves_behind frame nows olds ≡ nows
all_more after frame [] [] h = refl
all_more after frame [] (n ∷ nows) h = absurd h
all_more after frame (o ∷ olds) [] h = absurd h
all_more after frame (o ∷ olds) (n ∷ nows) h = λ i. h.0 i ∷ all_more after frame olds nows h.1 i

pub noted_now : (fate : Fate) (frame : ℕ) (olds nows : List (List ℕ)) → AllBoth (λ o n. GivesOne fate frame o n) olds nows → (old new : List (List ℕ)) → old ≡ olds → NotedBy fate frame old new nows → new ≡ nows
noted_now Fates.Pass frame olds nows h old new e noted = noted ∙ e ∙ sym (all_same frame olds nows h)
noted_now (Fates.Lost after) frame olds nows h old new e noted = noted ∙ ap (gaves_behind frame nows) e ∙ all_more after frame olds nows h

-- ---- by what a life does

-- one give-up more, or none
more_given : (recover made : ℕ) (b : Bool) (l : Lived Asked Reply) (m : Life Body Asked Reply) → m.gave ≡ l.life.gave → with_more made (given_where b recover l.spot made m).gave l.life.gave ≡ (given_where b recover l.spot made m).gave
more_given recover made true l m e =
    let longer : nat_lt (length l.life.gave) (length (m.gave ++ made ∷ [])) ≡ true =
    (let n = length-append m.gave (made ∷ []) in let k = ap length e in lt-ltb (length l.life.gave) (length (m.gave ++ made ∷ [])) (omega (arith, n, k))) in
    ap (λ (b : Bool). if b then l.life.gave ++ made ∷ [] else l.life.gave) longer ∙ ap (λ (g : List ℕ). g ++ made ∷ []) (sym e)
more_given recover made false l m e =
    let same : nat_lt (length l.life.gave) (length m.gave) ≡ false = (let k = ap length e in le-ltb (length l.life.gave) (length m.gave) (omega (arith, k))) in
    ap (λ (b : Bool). if b then l.life.gave ++ made ∷ [] else l.life.gave) same ∙ sym e

-- a slave is not given up before a frame
pub next_gives : (lens : ℕ → Lens) (made : ℕ) (a b : Lived Asked Reply) → IsNext (speech_at lens a.spot) acknowledged is_followed is_passed made a b → b.life.gave ≡ a.life.gave
next_gives lens made a b n = ap (λ (l : Life Body Asked Reply). l.gave) n.life ∙ next_gave (speech_at lens a.spot) acknowledged is_followed is_passed made a.life n.pick a.life.stand

module _ (lens : ℕ → Lens) (recover : ℕ) (gives : Bool) (made : ℕ) (f : Exchanged) (l : Lived Asked Reply) (share : Share) (news : List (News Body)) where
  -- one that came back
  abbrev pub lived_pass : Lived Asked Reply
  lived_pass = lived_back (speech_at lens l.spot) acknowledged is_followed is_passed made (seen lens f.back) l share news

  pub pass_gives : (old : List ℕ) → l.life.gave ≡ old → lived_pass.life.gave ≡ old
  pass_gives old e = back_gave (speech_at lens l.spot) acknowledged is_followed is_passed recover l.spot l.life made news (seen lens f.back) (came_at share.under share.at (seen lens f.back)) l.life.stand ∙ e

  -- a lost one
  abbrev pub lived_gone : Lived Asked Reply
  lived_gone = lived_lost (speech_at lens l.spot) acknowledged is_followed is_passed gives recover made (seen lens f.sent) l share news

  pub lost_gives : (old : List ℕ) → l.life.gave ≡ old → with_more made lived_gone.life.gave old ≡ lived_gone.life.gave
  lost_gives old e =
      let m = life_lost (speech_at lens l.spot) acknowledged is_followed is_passed l.spot news (seen lens f.sent) l.life l.life.stand in
      let same = lost_gave (speech_at lens l.spot) acknowledged is_followed is_passed recover l.spot l.life news (seen lens f.sent) l.life.stand in
      subst (λ (o : List ℕ). with_more made lived_gone.life.gave o ≡ lived_gone.life.gave) e (more_given recover made (gives && share.under) l m same)
