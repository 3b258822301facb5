-- What opening and giving up answer.
use Rattle.std.specs.Prelude.{◌≡◌, ℕ, List, Option, Some, None, Result, Ok, Err}
use Rattle.tpm_commands.specs.declared.response.Response.{Response}
use Rattle.tpm_model.specs.InStep.{CallerSession}
use Rattle.tpm_model.specs.Callers.{Opened, Refused, Code, NotExpected, WrongMac}
use Rattle.tpm_model.specs.Callers as model
use Rattle.tpm_caller.specs.declared.waiting.CallerFault.{CallerFault}
use Rattle.tpm_caller.specs.declared.waiting.CallerFault.TheVariants as faults

-- the fault of the model, as it is answered
abbrev pub fault_of : model.CallerFault → CallerFault
fault_of (Refused refusal) = faults.Refused refusal
fault_of (Code code) = faults.Code code
fault_of NotExpected = faults.NotExpected
fault_of WrongMac = faults.WrongMac

-- The first fault of the bytes, as it is answered.
abbrev pub HasFirstFault : model.Waiting → List ℕ → CallerFault → Type 0
HasFirstFault w bytes fault = (f : model.CallerFault) × (model.opened w bytes ≡ Err f) × (fault ≡ fault_of f)

-- What is opened leaves a caller, where it is kept, and the response; what is not leaves what was sent, unchanged.
abbrev pub opening_of : {Sent : Type 0} → Sent → Result Opened model.CallerFault
    → Result (Option CallerSession × Response) (Sent × CallerFault)
opening_of sent (Ok x) = Ok (x.caller, x.response)
opening_of sent (Err fault) = Err (sent, fault_of fault)

-- Giving up leaves the caller as before, or else what was sent, unchanged.
abbrev pub giving_up_of : {Sent : Type 0} → Sent → Option CallerSession → Result CallerSession Sent
giving_up_of sent (Some caller) = Ok caller
giving_up_of sent None = Err sent
