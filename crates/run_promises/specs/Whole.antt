-- EACH EPOCH OF A SLAVE SENDS WHOLE PACKETS: what its carried out rows emit are, but for emergencies, all fragments of packets, and of these the first came in.
use Rattle.std.specs.Prelude.{◌≡◌, ◌≤◌, ℕ, zero, suc, Bool, None, List, [], ◌∷◌, ◌++◌, length, take, ⊤}
use Rattle.packets_heard.specs.of_eoe.Joining.{joins}
use Rattle.packets_heard.specs.of_exchange_model.Rows.{heard_all}
use Rattle.packets_heard.specs.of_life_model.Lives.{Era, Life, Stand}
use Rattle.packets_heard.specs.of_link_mails.Body.{Body}
use Rattle.packets_heard.specs.of_master_duty.Reply.{Reply}
use Rattle.packets_heard.specs.of_master_hand.Joins.{fragment_in, packets_in}
use Rattle.packets_heard.specs.of_master_hand.Spoken.{Asked}
use Rattle.packets_heard.specs.Packets.{Emitted, HasArrived, parts, wholes}
use Rattle.packets_heard.specs.Heard.{Times, ended}
use Rattle.packets_heard.specs.of_slave_server.Serving.{Serving}
use Rattle.packets_heard.specs.of_slave_server.Spec.{profile_of}
use Rattle.served_rings.specs.of_run_work.Lives.{first_server}
use Rattle.packets_heard.specs.of_segment_model.Seats.{rows_of}
use Rattle.packets_heard.specs.of_segment_plan.declared.slave.SlaveSpec.{SlaveSpec}
use Rattle.run_promises.specs.Sends.{AreWhole}
use Rattle.served_rings.specs.Served.{AllServeSo, AreServedEras, IsServedEra, IsServedLife, IsServedNewest, emitted_behind}
use Rattle.packets_heard.specs.of_life_runs.Served.{Serves}
use Rattle.served_rings.specs.of_slave_model.Profile.{Profile}
use Rattle.served_rings.specs.of_slave_parts.Parts.{Server}
use Rattle.packets_heard.specs.of_slave_node.Node.{Node}
use Rattle.packets_heard.specs.of_state_model.Families.{InState}
use Rattle.packets_heard.specs.of_state_model.Promise.{services_in}

-- THERE ARE PACKETS OF WHICH THESE MAILS HAVE JUST ALL FRAGMENTS, and of the mails that were heard the first of them are joined, each whole as it was sent, and no fragment is dropped: just the packets that
-- these mails complete for their master
pub record ArriveWhole (room : ℕ) (sent heard : List Body) : Type 0 where
  pub packets : List Emitted
  pub whole : AreWhole room sent packets
  pub arrived : HasArrived (parts fragment_in heard) packets
  pub joined : packets_in None heard ≡ wholes (joins None (parts fragment_in heard))

-- the mails that were heard in the rows of an epoch
abbrev pub heard_in : Era Body Asked Reply → List Body
heard_in e = heard_all (rows_of e.side)

-- those of several, of each that heard one
abbrev pub heard_over : List (Era Body Asked Reply) → List (List Body)
heard_over [] = []
heard_over (e ∷ es) = ended [] (heard_in e) ++ heard_over es

-- THE MAILS ACCEPTED EACH TIME that the slave was open are those that were heard in the rows of its epochs, in order, of each that heard one
abbrev pub AreHeard : Life Body Asked Reply → Times → Type 0
AreHeard l t = ended t.past t.now ≡ heard_over (l.past ++ l.era ∷ [])

module _ (p : Profile) (boot : Bool) (station : ℕ) where
  -- OF AN EPOCH, from this server: what the rows emit that its slave carried out, and the mails that were heard of it
  abbrev pub EraSends : (from : InState Server) (e : Era Body Asked Reply) (left done : InState Server) → IsServedEra p boot station from e left done → Type 0
  EraSends from e left done i = ArriveWhole p.back (emitted_behind p boot station from (take i.count (services_in e.account.started))) (heard_in e)

  -- OF ALL THAT ARE OVER: of one that was never opened nothing was heard
  abbrev pub PastSends : (start : ℕ) (first : InState Server) (es : List (Era Body Asked Reply)) (b : InState Server) → AreServedEras p boot station start first es b → Type 0
  PastSends start first _ _ AreServedEras.none = ⊤
  PastSends start first _ _ (AreServedEras.unopened es b e before none) = PastSends start first es b before × (heard_in e ≡ [])
  PastSends start first _ _ (AreServedEras.opened es b e left done before was) = PastSends start first es b before × EraSends (record b { state = was.state }) e left done was.era

  -- OF THE NEWEST
  abbrev pub NewestSends : (start : ℕ) (from : InState Server) (e : Era Body Asked Reply) (n : Node Serving) (stand : Stand) → IsServedNewest p boot station start from e n stand → Type 0
  NewestSends start from e n _ (IsServedNewest.lives left done inner state was rests) = EraSends (record from { state = was.state }) e left done was.era
  NewestSends start from e n _ (IsServedNewest.unopened stand shut none holds) = heard_in e ≡ []
  NewestSends start from e n _ (IsServedNewest.over stand shut left done was holds) = EraSends (record from { state = was.state }) e left done was.era

  -- OF A WHOLE LIFE, as its slave carried it out
  pub record LifeSends (start : ℕ) (first : InState Server) (l : Life Body Asked Reply) (n : Node Serving) (d : IsServedLife p boot station start first l n) : Type 0 where
    pub past : PastSends start first l.past d.from d.past
    pub newest : NewestSends start d.from l.era n l.stand d.newest

-- OF EACH SLAVE of a plan, as its master leads it, by what it carried out
abbrev pub AllSendWhole : (ss : List SlaveSpec) (ws : List Serves) (ns : List (Node Serving)) → AllServeSo ss ws ns → Type 0
AllSendWhole [] [] [] d = ⊤
AllSendWhole (s ∷ ss) (w ∷ ws) (n ∷ ns) d = LifeSends (profile_of s) s.boot s.station s.start (first_server s) w.lead.lived.life n d.0 × AllSendWhole ss ws ns d.1
AllSendWhole _ _ _ d = ⊥

-- THE MAILS OF EACH TIME, of each slave as its master leads it
abbrev pub AllAreHeard : List Serves → List Times → Type 0
AllAreHeard [] [] = ⊤
AllAreHeard (w ∷ ws) (t ∷ ts) = AreHeard w.lead.lived.life t × AllAreHeard ws ts
AllAreHeard _ _ = ⊥

-- the mails that were heard in the rows of the epochs of the slave at a place, of each epoch that heard one
abbrev pub heard_at : List Serves → ℕ → List (List Body)
heard_at [] k = []
heard_at (w ∷ ws) zero = heard_over (w.lead.lived.life.past ++ w.lead.lived.life.era ∷ [])
heard_at (w ∷ ws) (suc k) = heard_at ws k

-- packets of at least 14 octets, as each that is sent has
abbrev pub AreLong : List (List ℕ) → Type 0
AreLong [] = ⊤
AreLong (p ∷ ps) = (14 ≤ length p) × AreLong ps
