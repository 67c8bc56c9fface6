-- EACH PACKET that came in of an epoch has at least 14 octets, as those that were sent.
use Rattle.std.proofs.Common.{◌≡◌, ℕ, zero, suc, Bool, None, List, [], ◌∷◌, ◌++◌, refl, sym, subst}
use Rattle.std.specs.Prelude.{⊤}
use Rattle.packets_heard.specs.of_life_model.Lives.{Era, Life, Stand}
use Rattle.packets_heard.specs.of_link_mails.Body.{Body}
use Rattle.packets_heard.specs.of_master_duty.Reply.{Reply}
use Rattle.packets_heard.specs.of_master_hand.Joins.{packets_in}
use Rattle.packets_heard.specs.of_master_hand.Spoken.{Asked}
use Rattle.packets_heard.specs.Packets.{ArePackets, Emitted, octets_of}
use Rattle.packets_heard.specs.Heard.{ended, packets_of}
use Rattle.packets_heard.specs.of_slave_server.Serving.{Serving}
use Rattle.packets_heard.specs.of_slave_server.Spec.{profile_of}
use Rattle.served_rings.specs.of_run_work.Lives.{first_server}
use Rattle.packets_heard.specs.of_segment_plan.declared.slave.SlaveSpec.{SlaveSpec}
use Rattle.run_promises.specs.Whole.{AllSendWhole, AreLong, ArriveWhole, LifeSends, NewestSends, PastSends, heard_at, heard_in, heard_over}
use Rattle.served_rings.specs.Served.{AllServeSo, AreServedEras, IsServedLife, IsServedNewest}
use Rattle.packets_heard.specs.of_life_runs.Served.{Serves}
use Rattle.served_rings.specs.of_slave_model.Profile.{Profile}
use Rattle.served_rings.specs.of_slave_parts.Parts.{Server}
use Rattle.packets_heard.specs.of_slave_node.Node.{Node}
use Rattle.packets_heard.specs.of_state_model.Families.{InState}

long_sent : (ps : List Emitted) → ArePackets ps → AreLong (octets_of ps)
long_sent [] are = tt
long_sent (p ∷ ps) are = (are.0.0, long_sent ps are.1)

long_first : (ps rest : List (List ℕ)) → AreLong (ps ++ rest) → AreLong ps
long_first [] rest long = tt
long_first (p ∷ ps) rest long = (long.0, long_first ps rest long.1)

long_append : (ps qs : List (List ℕ)) → AreLong ps → AreLong qs → AreLong (ps ++ qs)
long_append [] qs a b = b
long_append (p ∷ ps) qs a b = (a.0, long_append ps qs a.1 b)

-- ---- of an epoch
abbrev EraLong : Era Body Asked Reply → Type 0
EraLong e = AreLong (packets_in None (heard_in e))

arrive_long : (room : ℕ) (sent heard : List Body) → ArriveWhole room sent heard → AreLong (packets_in None heard)
arrive_long room sent heard a =
    let first = a.arrived.packets in
    subst AreLong (sym a.joined) (long_first _ first.0 (subst AreLong (sym first.1) (long_sent a.packets a.whole.are)))

none_long : (ms : List Body) → ms ≡ [] → AreLong (packets_in None ms)
none_long ms none = subst (λ l. AreLong (packets_in None l)) (sym none) tt

-- ---- of several
abbrev AllLong : List (Era Body Asked Reply) → Type 0
AllLong [] = ⊤
AllLong (e ∷ es) = EraLong e × AllLong es

long_last : (es : List (Era Body Asked Reply)) (e : Era Body Asked Reply) → AllLong es → EraLong e → AllLong (es ++ e ∷ [])
long_last [] e all one = (one, tt)
long_last (d ∷ es) e all one = (all.0, long_last es e all.1 one)

one_time : (ms : List Body) (mss : List (List Body)) → packets_of (ended [] ms ++ mss) ≡ packets_in None ms ++ packets_of mss
one_time [] mss = refl
one_time (m ∷ ms) mss = refl

over_long : (es : List (Era Body Asked Reply)) → AllLong es → AreLong (packets_of (heard_over es))
over_long [] all = tt
over_long (e ∷ es) all = subst AreLong (sym (one_time (heard_in e) (heard_over es))) (long_append (packets_in None (heard_in e)) (packets_of (heard_over es)) all.0 (over_long es all.1))

module _ (p : Profile) (boot : Bool) (station start : ℕ) (first : InState Server) where
  past_long : (es : List (Era Body Asked Reply)) (b : InState Server) (d : AreServedEras p boot station start first es b) → PastSends p boot station start first es b d → AllLong es
  past_long _ _ AreServedEras.none sends = tt
  past_long _ _ (AreServedEras.unopened es b e before none) sends = long_last es e (past_long es b before sends.0) (none_long (heard_in e) sends.1)
  past_long _ _ (AreServedEras.opened es b e left done before was) sends = long_last es e (past_long es b before sends.0) (arrive_long p.back _ (heard_in e) sends.1)

  newest_long : (from : InState Server) (e : Era Body Asked Reply) (n : Node Serving) (stand : Stand) (d : IsServedNewest p boot station start from e n stand) → NewestSends p boot station start from e n stand d → EraLong e
  newest_long from e n _ (IsServedNewest.lives left done inner state was rests) sends = arrive_long p.back _ (heard_in e) sends
  newest_long from e n _ (IsServedNewest.unopened stand shut none holds) sends = none_long (heard_in e) sends
  newest_long from e n _ (IsServedNewest.over stand shut left done was holds) sends = arrive_long p.back _ (heard_in e) sends

  life_long : (l : Life Body Asked Reply) (n : Node Serving) (d : IsServedLife p boot station start first l n) → LifeSends p boot station start first l n d → AreLong (packets_of (heard_over (l.past ++ l.era ∷ [])))
  life_long l n d sends = over_long (l.past ++ l.era ∷ []) (long_last l.past l.era (past_long l.past d.from d.past sends.past) (newest_long d.from l.era n l.stand d.newest sends.newest))

-- OF EACH SLAVE, at its place
pub all_long : (ss : List SlaveSpec) (ws : List Serves) (ns : List (Node Serving)) (d : AllServeSo ss ws ns) → AllSendWhole ss ws ns d → (k : ℕ) → AreLong (packets_of (heard_at ws k))
all_long [] [] [] d sends k = tt
all_long [] [] (n ∷ ns) d sends k = absurd d
all_long [] (w ∷ ws) ns d sends k = absurd d
all_long (s ∷ ss) [] ns d sends k = absurd d
all_long (s ∷ ss) (w ∷ ws) [] d sends k = absurd d
all_long (s ∷ ss) (w ∷ ws) (n ∷ ns) d sends zero = life_long (profile_of s) s.boot s.station s.start (first_server s) w.lead.lived.life n d.0 sends.0
all_long (s ∷ ss) (w ∷ ws) (n ∷ ns) d sends (suc k) = all_long ss ws ns d.1 sends.1 k
