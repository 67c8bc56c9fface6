-- Why a serving stops.
use Rattle.gateway_core.specs.of_ec_outside.declared.port.PortErr.{PortErr}
use Rattle.gateway_core.specs.of_ec_outside.declared.port.PortErr.TheVariants as errors
use Rattle.gateway_run.specs.declared.stop.Stop.{Stop}
use Rattle.gateway_run.specs.declared.stop.Stop.TheVariants as stops

-- the stop of a port's error
abbrev pub stop_of : PortErr → Stop
stop_of errors.Failed = stops.PortFault
stop_of errors.NoMemory = stops.NoMemory
