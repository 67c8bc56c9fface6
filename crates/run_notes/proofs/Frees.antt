-- Of a slave of which a packet, or a mail that is passed on, came into hand nothing is awaited.
use Rattle.std.proofs.Common.{◌≡◌, inl, inr, ℕ, zero, suc, true, false, List, [], ◌∷◌, ◌++◌, refl, sym, ap, ◌∙◌, subst}
use Rattle.run_book.specs.of_master_node.declared.event.Event.{Event}
use Rattle.run_book.specs.of_master_node.declared.event.Origin.TheVariants.{Script, Forward, Gateway}
use Rattle.run_frames.specs.of_life_runs.Led.{Leads}
use Rattle.run_frames.specs.of_life_runs.Spans.{is_open}
use Rattle.run_frames.specs.of_state_model.Stated.{Service}
use Rattle.run_frames.specs.of_master_hand.Spoken.{Asked}
use Rattle.run_frames.specs.of_state_model.Accounts.{Started}
use Rattle.run_notes.specs.Packets.{AllBeside, AllFree, BesideAt, BesideFor, CameBeside, FreeAt, FreeFor}
use Rattle.run_notes.specs.Reports.{AllReport, Reports, waits_of}
use Rattle.run_notes.specs.declared.notes.Awaited.{Awaited}
use Rattle.run_notes.specs.declared.notes.Notes.{Notes}
use Rattle.run_frames.specs.ScriptAnswers.{StandsBy}
use Rattle.run_frames.specs.Came.{is_beside}
use Rattle.run_frames.specs.Steps.{account_of}

last_same : {T : Type 0} (xs ys : List T) (x y : T) → xs ++ x ∷ [] ≡ ys ++ y ∷ [] → x ≡ y
last_same [] [] x y e = cc
last_same [] (b ∷ []) x y e = absurd (cc)
last_same [] (b ∷ c ∷ ys) x y e = absurd (cc)
last_same (a ∷ []) [] x y e = absurd (cc)
last_same (a ∷ b ∷ xs) [] x y e = absurd (cc)
last_same (a ∷ xs) (b ∷ ys) x y e = let f : xs ++ x ∷ [] ≡ ys ++ y ∷ [] = cc in last_same xs ys x y f

abbrev with_frame : Service Asked → ℕ → Started Asked
with_frame s frame = record { service = s; frame = frame }

-- what came into hand last is no service of a script
same_service : (a : Leads) (p : CameBeside a) (s : Service Asked) (frame : ℕ) (front : List (Started Asked)) → (account_of a).started ≡ front ++ with_frame s frame ∷ [] → is_beside s ≡ true
same_service a p s frame front started =
    let same = last_same p.front front (with_frame p.service p.frame) (with_frame s frame) (sym p.started ∙ started) in
    subst (λ (z : Service Asked). is_beside z ≡ true) (ap (λ (r : Started Asked). r.service) same) p.is

waits_nothing : (awaited : Awaited) (a : Leads) → CameBeside a → StandsBy (waits_of awaited) a → awaited ≡ Awaited.Nothing
waits_nothing Awaited.Nothing a p s = refl
waits_nothing Awaited.Reply a p s =
    absurd (let beside = same_service a p (Service.Mails s.era.asked) s.era.frame s.era.front s.era.started in let bad : true ≡ false = sym beside ∙ s.era.script in cc)
waits_nothing Awaited.Change a p (inl g) =
    absurd (let bad : false ≡ true = same_service a p (Service.State g.era.duty.target) g.era.frame g.era.front g.era.started in cc)
waits_nothing Awaited.Change a p (inr c) = absurd (let bad : true ≡ false = sym (ap is_open p.stand) ∙ c.away in cc)

free_report : (a : Leads) (n : Notes) → CameBeside a → Reports a n → n.awaited ≡ Awaited.Nothing
free_report a n p r = waits_nothing n.awaited a p r.told.stands

free_place : (bs : List Leads) (notes : List Notes) → AllReport bs notes → (k : ℕ) → BesideAt bs k → FreeAt notes k
free_place [] [] r k p = tt
free_place [] (n ∷ notes) r k p = absurd r
free_place (a ∷ bs) [] r k p = absurd r
free_place (a ∷ bs) (n ∷ notes) r zero p = free_report a n p r.0
free_place (a ∷ bs) (n ∷ notes) r (suc k) p = free_place bs notes r.1 k p

pub all_free : (bs : List Leads) (notes : List Notes) → AllReport bs notes → (es : List Event) → AllBeside bs es → AllFree notes es
all_free bs notes r [] p = tt
all_free bs notes r (e ∷ es) p = (free_event e p.0, all_free bs notes r es p.1)
  where
    free_event : (event : Event) → BesideFor bs event → FreeFor notes event
    free_event (Event.Began slave (Script number)) q = tt
    free_event (Event.Began slave (Forward number)) q = free_place bs notes r slave q
    free_event (Event.Began slave (Gateway number)) q = free_place bs notes r slave q
    free_event (Event.Answered slave kind) q = tt
    free_event (Event.Emergency slave octets) q = tt
    free_event (Event.GatewayReply key mail) q = tt
    free_event (Event.GatewayDone key) q = tt
    free_event (Event.GivenUp slave) q = tt
    free_event (Event.Cleared slave own) q = tt
    free_event (Event.Opened slave) q = tt
