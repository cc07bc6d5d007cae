use Rattle.std.proofs.Common.{◌≡◌, ℕ, ◌<◌, ◌^◌, List, [], refl, sym, subst}
use Rattle.std.specs.List.{AllByRecursion}
use Rattle.byteorder.specs.Numbers.{little_number-reads_back}
use Rattle.vub_blkreq.specs.declared.config.DeviceConfig.{DeviceConfig}
use Rattle.vub_blkreq.specs.Config.{Holds, config_bytes, config_fields}

-- no field lies in another, so each reads back
pub fields_hold : (c : DeviceConfig) (bytes : List ℕ) → bytes ≡ config_bytes c → c.capacity < 2 ^ 64 → c.queues < 2 ^ 16 → AllByRecursion (Holds bytes) (config_fields c)
fields_hold c bytes are capacity queues =
    subst (λ (bytes : List ℕ). AllByRecursion (Holds bytes) (config_fields c)) (sym are)
    (little_number-reads_back 8 c.capacity [] capacity, (refl, (refl, (refl, (little_number-reads_back 2 c.queues [] queues, (refl, (refl, (refl, (refl, (refl, (refl, tt)))))))))))
