-- WHERE NOTHING IS LEFT of a serving each slave of its book rests, and no packet is left; and where something is not both are so.
use Rattle.std.proofs.Common.{◌≡◌, inl, inr, ℕ, true, List, [], ◌∷◌, map, length, sym, subst}
use Rattle.std.specs.Prelude.{All}
use Rattle.std.proofs.lemmas.List.Elements.{All-cons, All-head, All-nil, All-tail}
use Rattle.run_record.specs.of_master_node.Happened.{events_of}
use Rattle.run_record.specs.of_master_node.Serving.{run_lead}
use Rattle.run_record.specs.of_master_node.Wants.{AllCounted, IsServedOut}
use Rattle.run_record.specs.of_frame_view.View.{Lens}
use Rattle.run_record.specs.of_frame_view.Shares.{AllBoth}
use Rattle.run_record.specs.of_life_runs.First.{lens_of}
use Rattle.run_record.specs.of_run_book.declared.book.Book.{Book}
use Rattle.run_record.specs.of_run_book.declared.book.SlaveBook.{SlaveBook}
use Rattle.run_record.proofs.Ends.{rest_so, served_left}
use Rattle.run_record.proofs.Lefts.{all_over}
use Rattle.run_record.proofs.NoPackets.{none_left}
use Rattle.run_record.proofs.ServedGaves.{has_lives, served_counted}
use Rattle.run_record.proofs.of_run_notes.Switched.{switched_same}
use Rattle.run_record.specs.Led.{LeavesNoPacket, RestsSo, exchanged}
use Rattle.run_record.specs.Ran.{IsUnderway}
use Rattle.run_record.specs.Served.{Serving, ServingRests}
use Rattle.run_record.specs.Session.{SessionState, are_at_rest, session_rows}
use Rattle.run_record.specs.Written.{WereServedDue}
use Rattle.run_record.specs.of_run_notes.Switched.{SameSwitch}
use Rattle.run_record.specs.of_segment_plan.declared.plan.Scenario.{Scenario}
use Rattle.run_record.specs.of_life_runs.Served.{Serves}
use Rattle.gateway_run.specs.Done.{ServedRestAll, ServedRestsSo}
use Rattle.gateway_run.specs.Serving.{LivesOn}

module _ (lens : ℕ → Lens) where
  -- a slave rests by its row, where one of a run does
  one_rests : (w : Serves) (row : SlaveBook) → IsServedOut lens w → RestsSo lens w.lead row → ServedRestsSo lens w row
  one_rests w row (inl gone) rests = inl gone
  one_rests w row (inr out) (inl gone) = inl gone
  one_rests w row (inr out) (inr rests) = inr (out, rests.1)

  each_rests : (ws : List Serves) (rows : List SlaveBook) → All (IsServedOut lens) ws → AllBoth (RestsSo lens) (map run_lead ws) rows → AllBoth (ServedRestsSo lens) ws rows
  each_rests [] [] out rests = tt
  each_rests [] (row ∷ rows) out rests = absurd rests
  each_rests (w ∷ ws) [] out rests = absurd rests
  each_rests (w ∷ ws) (row ∷ rows) out rests = (one_rests w row (All-head (IsServedOut lens) w ws out) rests.0, each_rests ws rows (All-tail (IsServedOut lens) w ws out) rests.1)

  -- and the other way round
  out_of : (ws : List Serves) (rows : List SlaveBook) → AllBoth (ServedRestsSo lens) ws rows → All (IsServedOut lens) ws
  out_of [] rows rests = All-nil (IsServedOut lens)
  out_of (w ∷ ws) [] rests = absurd rests
  out_of (w ∷ ws) (row ∷ rows) rests = All-cons (IsServedOut lens) w ws (elim rests.0 [ inl gone ↦ inl gone | inr rest ↦ inr rest.0 ]) (out_of ws rows rests.1)

  lead_rests : (ws : List Serves) (rows : List SlaveBook) → AllBoth (ServedRestsSo lens) ws rows → AllBoth (RestsSo lens) (map run_lead ws) rows
  lead_rests [] [] rests = tt
  lead_rests [] (row ∷ rows) rests = absurd rests
  lead_rests (w ∷ ws) [] rests = absurd rests
  lead_rests (w ∷ ws) (row ∷ rows) rests = (elim rests.0 [ inl gone ↦ inl gone | inr rest ↦ inr (rest.0.idle, rest.1) ], lead_rests ws rows rests.1)

-- WHERE SOMETHING IS LEFT TO DO not each slave rests, or a packet is left
pub some_left : (plan : Scenario) (s : SessionState) (b : Book) (serving : Serving plan s (map exchanged b.frames)) → s.recover ≡ plan.recover → length s.notes ≡ length s.ring.nodes → LivesOn s → b.slaves ≡ session_rows s → events_of serving.rows ≡ b.switch → WereServedDue serving.leading.lives →
    ServedRestAll plan serving.leading.serves b → ⊥
some_left plan s b serving recover many lives rows events due none =
    let lens = lens_of plan.slaves in
    let ws = serving.leading.serves in
    lives.1 (all_over plan s (map exchanged b.frames) serving recover many lives.0 b.switch events none.1 due (out_of lens ws b.slaves none.0) (subst (λ (rs : List SlaveBook). AllBoth (RestsSo lens) (map run_lead ws) rs) rows (lead_rests lens ws b.slaves none.0)))

module _ (plan : Scenario) (count : ℕ) (s : SessionState) (b b' : Book) (h : IsUnderway plan count s b) (serving : Serving plan s (map exchanged b'.frames)) (rests : ServingRests s) where
  abbrev ws : List Serves
  ws = serving.leading.serves

  out : All (IsServedOut (lens_of plan.slaves)) ws
  out = rests.slaves plan (map exchanged b'.frames) serving

  counted : AllCounted s.recover (map run_lead ws)
  counted = subst (λ (n : ℕ). AllCounted n (map run_lead ws)) (sym h.recover) (served_counted plan (map exchanged b'.frames) serving.leading.missed ws serving.leading.lives)

  -- EACH SLAVE RESTS
  pub all_rest : b'.slaves ≡ session_rows s → length s.notes ≡ length s.ring.nodes → are_at_rest (session_rows s) ≡ true → AllBoth (ServedRestsSo (lens_of plan.slaves)) ws b'.slaves
  all_rest rows many rest =
      let lens = lens_of plan.slaves in
      each_rests lens ws b'.slaves out
      (subst (λ (rs : List SlaveBook). AllBoth (RestsSo lens) (map run_lead ws) rs) (sym rows) (rest_so lens s.recover (map run_lead ws) s.ring.nodes s.notes many counted serving.gave rest (served_left lens ws out)))

  -- NO PACKET IS LEFT
  pub no_packet : SameSwitch b b' → LeavesNoPacket plan (map run_lead ws) b'.switch
  no_packet kept =
      none_left (lens_of plan.slaves) plan.recover plan s.master (map run_lead ws) s.ports s.ring.number b'
      (has_lives (lens_of plan.slaves) plan.recover plan.retry serving.leading.missed (length (map exchanged b'.frames)) s.master ws serving.leading.shows) serving.forwarded.ports h.ports
      (switched_same s.ports plan.host s.ring.number s.master.lan b b' kept h.switched) rests.come
