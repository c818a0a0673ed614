-- The numbers of the commands.
use Rattle.std.specs.Prelude.{ℕ}

abbrev pub get_profile : ℕ
get_profile = 1

abbrev pub open_session : ℕ
open_session = 2

abbrev pub close_session : ℕ
close_session = 3

abbrev pub sync_session : ℕ
sync_session = 4

abbrev pub export_session : ℕ
export_session = 5

abbrev pub import_session : ℕ
import_session = 6

abbrev pub initialize_context : ℕ
initialize_context = 7

abbrev pub derive_context : ℕ
derive_context = 8

abbrev pub certify_key : ℕ
certify_key = 9

abbrev pub sign : ℕ
sign = 10

abbrev pub seal : ℕ
seal = 11

abbrev pub unseal : ℕ
unseal = 12

abbrev pub derive_sealing_public_key : ℕ
derive_sealing_public_key = 13

abbrev pub rotate_context_handle : ℕ
rotate_context_handle = 14

abbrev pub destroy_context : ℕ
destroy_context = 15

abbrev pub get_certificate_chain : ℕ
get_certificate_chain = 16
